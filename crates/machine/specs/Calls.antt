-- What a call promises: document 01, "Refusals of a call", "Reset" and "Run".
use Rattle.std.specs.Prelude.{◌≡◌, ℕ, if◌then◌else◌, not, List, [], ◌∷◌, ◌++◌, length, replicate, ◌==◌, slice_set, Result, Ok, Err, ⊤}
use Rattle.memory.specs.Access.{value_at}
use Rattle.memory.specs.Lengths.{Test, first, length_tests, test}
use Rattle.instructions.specs.State.{control, masked, with_pc, with_sr, with_vbr}
use Rattle.machine.specs.declared.Answer.{Answer}
use Rattle.machine.specs.declared.Machine.{Machine}
use Rattle.machine.specs.declared.Mode.TheVariants.{Running}
use Rattle.machine.specs.declared.Refusal.{Refusal}
use Rattle.machine.specs.declared.Refusal.TheVariants.{Ragged, Size, Status}
use Rattle.machine.specs.declared.Refused.{Refused}
use Rattle.machine.specs.Situation.{Situation, over, stopped}
use Rattle.machine.specs.Run.{Ran, run, stepped, still}

-- Document 01's number of a refusal; and of what a check answers, 0 for none.
abbrev pub refusal_number : Refusal → ℕ
refusal_number Ragged = 1
refusal_number Size = 2
refusal_number Status = 3

abbrev pub check_number : Result ⊤ Refusal → ℕ
check_number (Ok done) = 0
check_number (Err why) = refusal_number why

-- The number of the refusal of a call with this machine and memory; 0 for none. 1 and 2 are the length's; 3: "else, SR given has a bit
-- outside H'3F3 (step and run only)"
abbrev pub refused : Machine → List ℕ → ℕ
refused m memory =
    let sr = m.control.sr in
    first (length_tests (length memory) ++ (test 3 (not (masked sr == sr)) ∷ []))

-- What a call comes to: the refusal's number, and the machine over its memory with the steps taken.
pub record Called : Type 0 where
  pub refusal : ℕ
  pub ran : Ran

-- What a call answers, with the memory that is left. A refused one has taken no step.
abbrev pub called : Result Answer Refused → List ℕ → Called
called (Ok answer) memory = record { refusal = 0; ran = record { after = over answer.machine memory; steps = answer.steps } }
called (Err refused) memory = record { refusal = refusal_number refused.refusal; ran = still (over refused.machine memory) }

-- A call that is handed x, by the number of its refusal: 0 and it is done, any other and "state as given, memory untouched, 0 steps".
abbrev pub calling : ℕ → Ran → Situation → Called
calling number done x = record { refusal = number; ran = if number == 0 then done else still x }

abbrev pub run_call : ℕ → Machine → List ℕ → Called
run_call budget m memory = calling (refused m memory) (run budget (over m memory)) (over m memory)

abbrev pub step_call : Machine → List ℕ → Called
step_call m memory = calling (refused m memory) (stepped (over m memory)) (over m memory)

-- "the blank one (registers zero, SR H'F0, stopped for reason 2)"
abbrev pub blank : Machine
blank = record { r = replicate 16 0; control = control 0 0xf0 0 0 0 0 0; mode = stopped 2 }

-- "PC is the long at 0, R15 the long at 4, SR H'F0, mode running"; of the other registers "the manual fixes only VBR".
abbrev pub start : Machine → List ℕ → Machine
start m memory =
    record {
      r = slice_set m.r 15 (value_at 4 memory 4);
      control = with_pc (value_at 4 memory 0) (with_sr 0xf0 (with_vbr 0 m.control));
      mode = Running;
    }

-- "All other registers are zero here": a start of the blank machine. "Reset is handed no state: refused, it returns the blank one"; "The
-- memory is only read."
abbrev pub reset_by : ℕ → List ℕ → Called
reset_by number memory = calling number (still (over (start blank memory) memory)) (over blank memory)

abbrev pub reset_tests : List ℕ → List Test
reset_tests memory = length_tests (length memory)

abbrev pub reset_call : List ℕ → Called
reset_call memory = reset_by (first (reset_tests memory)) memory

-- The promises of the public operations: document 01's number of the refusal, and machine, steps and memory those of the definition.
abbrev pub Resets : List ℕ → Result Answer Refused → Type 0
Resets memory answer = called answer memory ≡ reset_call memory

abbrev pub Steps : Machine → List ℕ → Result Answer Refused → List ℕ → Type 0
Steps m memory answer after = called answer after ≡ step_call m memory

abbrev pub Runs : ℕ → Machine → List ℕ → Result Answer Refused → List ℕ → Type 0
Runs budget m memory answer after = called answer after ≡ run_call budget m memory
