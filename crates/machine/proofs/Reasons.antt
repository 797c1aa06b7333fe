-- No step stops the machine for reason 3: in a slot no instruction is a delayed branch, since one that rewrites the PC is illegal there.
-- Assumes nothing.
use Rattle.std.specs.Prelude.{None, Option, Some}
use Rattle.std.proofs.Common.{◌≡◌, ℕ, refl}
use Rattle.memory.specs.Access.{loaded}
use Rattle.decoder.specs.Code.{meaning}
use Rattle.decoder.specs.declared.meaning.Meaning.{Meaning}
use Rattle.instructions.specs.Execute.{attempted}
use Rattle.instructions.specs.State.{State}
use Rattle.instructions.specs.declared.control.Flow.{Flow}
use Rattle.instructions.specs.declared.control.Flow.TheVariants.{Next, Jump, Delay, Sleep, Trap, Fault, Illegal}
use Rattle.instructions.proofs.Effects.{Straight, no_branch_in_slot}
use Rattle.machine.specs.Situation.{Situation}
use Rattle.machine.specs.Exceptions.{raise, saved_pc, address_error}
use Rattle.machine.specs.Longs.{mode_value}
use Rattle.machine.specs.Run.{run}
use Rattle.machine.specs.Step.{step, halted, in_slot, illegal_number, delayed, next_pc, settle, fetched, pc_of}
use Rattle.machine.specs.declared.Mode.{Mode}
use Rattle.machine.specs.declared.Mode.TheVariants.{Running, Slot, Asleep, Stopped}
use Rattle.machine.specs.declared.Stop.TheVariants.{Push, Vector, Branch}
use Rattle.machine.proofs.Invariants.{either, by_entry, run_keeps}

-- Any mode but stopped for reason 3.
abbrev Other : Mode → Type 0
Other Running = Unit
Other (Slot target) = Unit
Other Asleep = Unit
Other (Stopped Push) = Unit
Other (Stopped Vector) = Unit
Other (Stopped Branch) = ⊥

abbrev Elsewhere : Situation → Type 0
Elsewhere x = Other x.mode

enters : (number saved : ℕ) (s : State) → Elsewhere (raise number saved s)
enters number saved s = by_entry Elsewhere number saved s.control.sr s tt tt tt

-- In a slot, no delayed branch.
abbrev StraightInSlot : Mode → Flow → Type 0
StraightInSlot (Slot target) flow = Straight flow
StraightInSlot Running flow = Unit
StraightInSlot Asleep flow = Unit
StraightInSlot (Stopped reason) flow = Unit

delays :
    (mode : Mode) (target : ℕ) (before after : State) → Other mode → StraightInSlot mode (Delay target) →
    Elsewhere (settle (Delay target) mode before after)
delays Running target before after other straight = tt
delays (Slot waiting) target before after other straight = absurd straight
delays Asleep target before after other straight = tt
delays (Stopped reason) target before after other straight = other

settles :
    (flow : Flow) (mode : Mode) (before after : State) → Other mode → StraightInSlot mode flow →
    Elsewhere (settle flow mode before after)
settles Next mode before after other straight = tt
settles (Jump target) mode before after other straight = tt
settles (Delay target) mode before after other straight = delays mode target before after other straight
settles Sleep mode before after other straight = tt
settles (Trap number) mode before after other straight = enters number (next_pc mode before) before
settles Fault mode before after other straight = enters address_error (next_pc mode before) before
settles Illegal mode before after other straight = enters (illegal_number mode) (saved_pc mode before.control.pc) before

straight_in_slot : (mode : Mode) (x : Meaning) (s : State) → StraightInSlot mode (attempted (in_slot mode) x (pc_of mode s) s).flow
straight_in_slot (Slot target) x s = no_branch_in_slot x (pc_of (Slot target) s) s
straight_in_slot Running x s = tt
straight_in_slot Asleep x s = tt
straight_in_slot (Stopped reason) x s = tt

fetches : (mode : Mode) (l : Option ℕ) (s : State) → Other mode → Elsewhere (fetched mode l s)
fetches mode (Some w) s other =
    settles (attempted (in_slot mode) (meaning w) (pc_of mode s) s).flow mode s (attempted (in_slot mode) (meaning w) (pc_of mode s) s).after other
    (straight_in_slot mode (meaning w) s)
fetches mode None s other = enters address_error (saved_pc mode s.control.pc) s

steps : (x : Situation) → Elsewhere x → Elsewhere (step x)
unfolding step
steps x other =
    either Elsewhere (halted x) x _ other
    (fetches x.mode (loaded 2 x.state.memory x.state.control.pc) x.state other)

-- A mode that came to be the one stopped for reason 3 was it already.
was : (before after : Mode) → (Other before → Other after) → after ≡ Stopped Branch → before ≡ Stopped Branch
was Running after keeps stopped = absurd (rw stopped at (keeps tt))
was (Slot target) after keeps stopped = absurd (rw stopped at (keeps tt))
was Asleep after keeps stopped = absurd (rw stopped at (keeps tt))
was (Stopped Push) after keeps stopped = absurd (rw stopped at (keeps tt))
was (Stopped Vector) after keeps stopped = absurd (rw stopped at (keeps tt))
was (Stopped Branch) after keeps stopped = refl

-- Where it stands in the definition it has document 01's number.
pub delay_numbered : (waiting target : ℕ) (before after : State) → mode_value (delayed (Slot waiting) target before after).mode ≡ 3
delay_numbered waiting target before after = refl

pub never_reason_3 : (x : Situation) → (step x).mode ≡ Stopped Branch → x.mode ≡ Stopped Branch
never_reason_3 x = was x.mode (step x).mode (steps x)

pub run_never_reason_3 : (n : ℕ) (x : Situation) → (run n x).after.mode ≡ Stopped Branch → x.mode ≡ Stopped Branch
run_never_reason_3 n x = was x.mode (run n x).after.mode (run_keeps Elsewhere steps n x)
