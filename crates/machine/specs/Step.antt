-- One step: document 01, "One step".
use Rattle.std.specs.Prelude.{ℕ, ◌+◌, Bool, true, false, cond, None, Option, Some}
use Rattle.numbers.specs.Numbers.{low32}
use Rattle.arithmetic.specs.Addresses.{following}
use Rattle.memory.specs.Access.{loaded}
use Rattle.decoder.specs.Code.{meaning}
use Rattle.decoder.specs.declared.meaning.Meaning.{Meaning}
use Rattle.instructions.specs.State.{State, changed, with_pc}
use Rattle.instructions.specs.Shapes.{Effect}
use Rattle.instructions.specs.Execute.{attempted}
use Rattle.instructions.specs.declared.control.Flow.{Flow}
use Rattle.instructions.specs.declared.control.Flow.TheVariants.{Next, Jump, Delay, Sleep, Trap, Fault, Illegal}
use Rattle.machine.specs.declared.Mode.{Mode}
use Rattle.machine.specs.declared.Mode.TheVariants.{Running, Slot, Asleep, Stopped}
use Rattle.machine.specs.Situation.{Situation, at, stopped}
use Rattle.machine.specs.Exceptions.{target_or, saved_pc, raise, general_illegal, illegal_slot, address_error}

-- The next word; in a slot the target.
abbrev pub next_word : State → ℕ
next_word s = low32 (s.control.pc + 2)

abbrev pub next_pc : Mode → State → ℕ
next_pc mode s = target_or mode (next_word s)

-- Item 3, "In a slot: an undefined word, or one that rewrites the PC, is an illegal slot. Not in a slot: an undefined word is a general
-- illegal instruction."
abbrev pub in_slot : Mode → Bool
in_slot (Slot target) = true
in_slot Running = false
in_slot Asleep = false
in_slot (Stopped reason) = false

abbrev pub illegal_number : Mode → ℕ
illegal_number mode = cond (in_slot mode) illegal_slot general_illegal

-- A taken delayed branch: "PC moves on by 2 and the mode becomes "in a slot" with the target"; "reason 3: a delayed branch is taken
-- while another's target still waits"
abbrev pub delayed : Mode → ℕ → State → State → Situation
delayed Running target before after = at (Slot target) (changed (with_pc (next_word after)) after)
delayed (Slot waiting) target before after = at (stopped 3) before
delayed Asleep target before after = at Asleep before
delayed (Stopped reason) target before after = at (Stopped reason) before

-- Where PC and mode go after an instruction: items 4 and 5. before is the state as the instruction found it.
abbrev pub settle : Flow → Mode → State → State → Situation
settle Next mode before after = at Running (changed (with_pc (next_pc mode before)) after)
settle (Jump target) mode before after = at Running (changed (with_pc target) after)
settle (Delay target) mode before after = delayed mode target before after
settle Sleep mode before after = at Asleep (changed (with_pc (next_pc mode before)) after)
settle (Trap number) mode before after = raise number (next_pc mode before) before
settle Fault mode before after = raise address_error (next_pc mode before) before
settle Illegal mode before after = raise (illegal_number mode) (saved_pc mode before.control.pc) before

abbrev pub performed : Mode → State → Effect → Situation
performed mode s e = settle e.flow mode s e.after

-- What an instruction takes for PC in its own address arithmetic: A + 4, and "A is the instruction's own address, in a slot too."
abbrev pub pc_of : Mode → State → ℕ
pc_of mode s = following s.control.pc

-- Items 3 to 5.
abbrev pub decoded : Mode → Meaning → State → Situation
decoded mode x s = performed mode s (attempted (in_slot mode) x (pc_of mode s) s)

-- Item 2, "Fetch the word at PC. PC odd or the word outside: address error."
abbrev pub fetched : Mode → Option ℕ → State → Situation
fetched mode (Some w) s = decoded mode (meaning w) s
fetched mode None s = raise address_error (saved_pc mode s.control.pc) s

-- Item 1, "Asleep or stopped: nothing happens and no step is counted."
abbrev pub asleep_or_stopped : Mode → Bool
asleep_or_stopped Running = false
asleep_or_stopped (Slot target) = false
asleep_or_stopped Asleep = true
asleep_or_stopped (Stopped reason) = true

abbrev pub halted : Situation → Bool
halted x = asleep_or_stopped x.mode

unfoldable pub step : Situation → Situation
step x = cond (halted x) x (fetched x.mode (loaded 2 x.state.memory x.state.control.pc) x.state)
