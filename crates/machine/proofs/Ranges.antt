-- The ranges of the machine's record (document 01, "State") are kept by every step and every run, and so is the memory's length: what an
-- instruction leaves is in range, an address from which the PC or a target comes is below 2^32, and a push writes bytes.
-- Assumes nothing.
use Rattle.std.specs.Prelude.{None, Option, Some}
use Rattle.std.proofs.Common.{◌≡◌, ℕ, zero, suc, ◌^◌, ◌<◌, Bool, true, false, cond, eqb, List, length, replicate, refl, ◌∙◌, arith}
use Rattle.memory.specs.Access.{loaded, written}
use Rattle.memory.specs.Lengths.{refused_length}
use Rattle.memory.proofs.Bytes.{Bytes, length_written, value_small, written_bytes}
use Rattle.decoder.specs.Code.{meaning}
use Rattle.decoder.proofs.Table.{fields_within}
use Rattle.instructions.specs.Execute.{attempted}
use Rattle.instructions.specs.State.{State, changed, with_pc}
use Rattle.instructions.specs.declared.control.Flow.{Flow}
use Rattle.instructions.specs.declared.control.Flow.TheVariants.{Next, Jump, Delay, Sleep, Trap, Fault, Illegal}
use Rattle.instructions.proofs.Bounds.{low32_below}
use Rattle.instructions.proofs.Effects.{attempt_keeps_length}
use Rattle.instructions.proofs.Ranges.{StateInRange, TargetInRange, Below, register_changed, control_changed, memory_changed, pc_changed, attempt_in_range}
use Rattle.machine.specs.Situation.{Situation, at, over}
use Rattle.machine.specs.Exceptions.{below_r15, pushed, raise, vector, saved_pc, address_error}
use Rattle.machine.specs.Calls.{Called, blank, calling, refused, reset_call, run_call, start, step_call}
use Rattle.machine.specs.Run.{Ran, run, stepped, still}
use Rattle.machine.specs.Step.{step, halted, in_slot, illegal_number, next_pc, delayed, settle, fetched, pc_of}
use Rattle.machine.specs.declared.Machine.{Machine}
use Rattle.machine.specs.declared.Mode.{Mode}
use Rattle.machine.specs.declared.Mode.TheVariants.{Running, Slot, Asleep, Stopped}
use Rattle.machine.proofs.Invariants.{either, by_entry, run_keeps}

-- The target of a slot.
abbrev pub ModeInRange : Mode → Type 0
ModeInRange Running = Unit
ModeInRange (Slot target) = target < 2 ^ 32
ModeInRange Asleep = Unit
ModeInRange (Stopped reason) = Unit

pub record InRange (x : Situation) : Type 0 where
  pub state : StateInRange x.state
  pub mode : ModeInRange x.mode

pushed_bytes : (saved : ℕ) (s : State) → Bytes s.memory → Bytes (pushed saved s)
pushed_bytes saved s bytes =
    written_bytes 4 (written 4 s.memory (below_r15 4 s) s.control.sr) (below_r15 8 s) saved
    (written_bytes 4 s.memory (below_r15 4 s) s.control.sr bytes)

pushed_length : (saved : ℕ) (s : State) → length (pushed saved s) ≡ length s.memory
pushed_length saved s =
    length_written 4 (written 4 s.memory (below_r15 4 s) s.control.sr) (below_r15 8 s) saved
    ∙ length_written 4 s.memory (below_r15 4 s) s.control.sr

enters : {s : State} → StateInRange s → (number saved : ℕ) → InRange (raise number saved s)
enters {s} r number saved =
    by_entry InRange number saved s.control.sr s
    (record {
      state =
          control_changed
          (memory_changed (register_changed r 15 (low32_below _)) (pushed saved s) (pushed_bytes saved s r.memory))
          (pc_changed r.control (value_small 4 (pushed saved s) (vector number s) (pushed_bytes saved s r.memory)));
      mode = tt;
    })
    (record { state = r; mode = tt })
    (record { state = r; mode = tt })

-- What settles a step.
saved_below : (mode : Mode) {other : ℕ} → ModeInRange mode → other < 2 ^ 32 → saved_pc mode other < 2 ^ 32
saved_below Running target below = below
saved_below (Slot waiting) target below = target
saved_below Asleep target below = below
saved_below (Stopped reason) target below = below

goes : {s : State} (mode : Mode) {v : ℕ} → ModeInRange mode → v < 2 ^ 32 → StateInRange s → InRange (at mode (changed (with_pc v) s))
goes mode target below r = record { state = control_changed r (pc_changed r.control below); mode = target }

delays :
    (mode : Mode) {target : ℕ} {before after : State} → StateInRange before → StateInRange after → target < 2 ^ 32 →
    InRange (delayed mode target before after)
delays Running r q below = goes (Slot _) below (low32_below _) q
delays (Slot waiting) r q below = record { state = r; mode = tt }
delays Asleep r q below = record { state = r; mode = tt }
delays (Stopped reason) r q below = record { state = r; mode = tt }

settles :
    (flow : Flow) (mode : Mode) {before after : State} → ModeInRange mode → StateInRange before → StateInRange after →
    TargetInRange flow → InRange (settle flow mode before after)
settles Next mode waiting r q below = goes Running tt (saved_below mode waiting (low32_below _)) q
settles (Jump target) mode waiting r q below = goes Running tt below q
settles (Delay target) mode waiting r q below = delays mode r q below
settles Sleep mode waiting r q below = goes Asleep tt (saved_below mode waiting (low32_below _)) q
settles (Trap number) mode waiting r q below = enters r number _
settles Fault mode waiting r q below = enters r address_error _
settles Illegal mode waiting r q below = enters r (illegal_number mode) _

fetches : (mode : Mode) (l : Option ℕ) {s : State} → ModeInRange mode → StateInRange s → InRange (fetched mode l s)
fetches mode (Some w) {s} waiting r =
    let e = attempt_in_range (in_slot mode) (meaning w) (pc_of mode s) s (fields_within w) (low32_below _) r in
    settles (attempted (in_slot mode) (meaning w) (pc_of mode s) s).flow mode waiting r e.after e.target
fetches mode None waiting r = enters r address_error _

pub step_keeps : (x : Situation) → InRange x → InRange (step x)
unfolding step
step_keeps x r =
    either InRange (halted x) x _ r
    (fetches x.mode (loaded 2 x.state.memory x.state.control.pc) r.mode r.state)

pub run_in_range : (n : ℕ) (x : Situation) → InRange x → InRange (run n x).after
run_in_range = run_keeps InRange step_keeps

-- A reset gives them over any memory of bytes, and a call leaves them as it finds them.
zeros : (n : ℕ) → Below (2 ^ 32) (replicate n 0)
zeros zero i = omega arith
zeros (suc n) zero = omega arith
zeros (suc n) (suc i) = zeros n i

blanked : (memory : List ℕ) → Bytes memory → InRange (over blank memory)
blanked memory bytes =
    record {
      state =
          record {
            sixteen = refl;
            registers = zeros 16;
            control =
                record {
                  pc = omega arith;
                  sr = refl;
                  gbr = omega arith;
                  vbr = omega arith;
                  pr = omega arith;
                  mach = omega arith;
                  macl = omega arith;
                };
            memory = bytes;
          };
      mode = tt;
    }

starts : (m : Machine) (memory : List ℕ) → InRange (over m memory) → InRange (over (start m memory) memory)
starts m memory r =
    let bytes = r.state.memory in
    let control = r.state.control in
    record {
      state =
          control_changed (register_changed r.state 15 (value_small 4 memory 4 bytes))
          (record {
            pc = value_small 4 memory 0 bytes;
            sr = refl;
            gbr = control.gbr;
            vbr = omega arith;
            pr = control.pr;
            mach = control.mach;
            macl = control.macl;
          });
      mode = tt;
    }

abbrev CalledInRange : Called → Type 0
CalledInRange c = InRange c.ran.after

calls : (number : ℕ) (done : Ran) (x : Situation) → InRange done.after → InRange x → CalledInRange (calling number done x)
calls number done x after given = go (eqb number 0)
  where
    go : (t : Bool) → InRange (cond t done (still x)).after
    go true = after
    go false = given

pub reset_in_range : (memory : List ℕ) → Bytes memory → CalledInRange (reset_call memory)
reset_in_range memory bytes =
    let given = blanked memory bytes in
    calls (refused_length (length memory)) _ _ (starts blank memory given) given

module _ (m : Machine) (memory : List ℕ) (r : InRange (over m memory)) where
  pub run_call_in_range : (budget : ℕ) → CalledInRange (run_call budget m memory)
  run_call_in_range budget = calls (refused m memory) _ _ (run_in_range budget (over m memory) r) r

  pub step_call_in_range : CalledInRange (step_call m memory)
  step_call_in_range = calls (refused m memory) (stepped (over m memory)) (over m memory) (step_keeps (over m memory) r) r

-- The memory's length, in range or not.
abbrev Sized : ℕ → Situation → Type 0
Sized size x = length x.state.memory ≡ size

entry_sized : (number saved : ℕ) (s : State) → Sized (length s.memory) (raise number saved s)
entry_sized number saved s = by_entry (Sized (length s.memory)) number saved s.control.sr s (pushed_length saved s) refl refl

delay_sized :
    (mode : Mode) (target : ℕ) (before after : State) → length after.memory ≡ length before.memory →
    Sized (length before.memory) (delayed mode target before after)
delay_sized Running target before after same = same
delay_sized (Slot waiting) target before after same = refl
delay_sized Asleep target before after same = refl
delay_sized (Stopped reason) target before after same = refl

settle_sized :
    (flow : Flow) (mode : Mode) (before after : State) → length after.memory ≡ length before.memory →
    Sized (length before.memory) (settle flow mode before after)
settle_sized Next mode before after same = same
settle_sized (Jump target) mode before after same = same
settle_sized (Delay target) mode before after same = delay_sized mode target before after same
settle_sized Sleep mode before after same = same
settle_sized (Trap number) mode before after same = entry_sized number (next_pc mode before) before
settle_sized Fault mode before after same = entry_sized address_error (next_pc mode before) before
settle_sized Illegal mode before after same = entry_sized (illegal_number mode) (saved_pc mode before.control.pc) before

fetch_sized : (mode : Mode) (l : Option ℕ) (s : State) → Sized (length s.memory) (fetched mode l s)
fetch_sized mode (Some w) s =
    settle_sized (attempted (in_slot mode) (meaning w) (pc_of mode s) s).flow mode s (attempted (in_slot mode) (meaning w) (pc_of mode s) s).after
    (attempt_keeps_length (in_slot mode) (meaning w) (pc_of mode s) s)
fetch_sized mode None s = entry_sized address_error (saved_pc mode s.control.pc) s

pub step_keeps_length : (x : Situation) → length (step x).state.memory ≡ length x.state.memory
unfolding step
step_keeps_length x =
    either (Sized (length x.state.memory)) (halted x) x _ refl
    (fetch_sized x.mode (loaded 2 x.state.memory x.state.control.pc) x.state)

pub run_keeps_length : (n : ℕ) (x : Situation) → length (run n x).after.state.memory ≡ length x.state.memory
run_keeps_length n x = run_keeps (Sized (length x.state.memory)) (λ y same. step_keeps_length y ∙ same) n x refl
