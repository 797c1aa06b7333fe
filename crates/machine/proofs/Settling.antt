-- A step settles by the state that the instruction left, since what raises an exception leaves all as it was.
-- Assumes nothing.
use Rattle.std.specs.Prelude.{None, Some}
use Rattle.std.proofs.Common.{◌≡◌, ℕ, Bool, true, false, sym, refl, ap, arith}
use Rattle.memory.specs.Access.{loaded}
use Rattle.decoder.specs.Code.{meaning}
use Rattle.decoder.specs.declared.meaning.Meaning.{Meaning}
use Rattle.instructions.specs.Execute.{attempted}
use Rattle.instructions.specs.Shapes.{Effect, leads}
use Rattle.instructions.specs.State.{State}
use Rattle.instructions.specs.declared.control.Flow.{Flow}
use Rattle.instructions.specs.declared.control.Flow.TheVariants.{Next, Jump, Delay, Sleep, Trap, Fault, Illegal}
use Rattle.instructions.proofs.Effects.{Unchanged, Straight, attempt_changes_nothing, attempt_keeps_pc, no_branch_in_slot}
use Rattle.machine.specs.Situation.{at}
use Rattle.machine.specs.Exceptions.{address_error, raise, saved_pc}
use Rattle.machine.specs.Promises.{Admits}
use Rattle.machine.specs.Step.{asleep_or_stopped, in_slot, settle, step, pc_of}
use Rattle.machine.specs.declared.Mode.{Mode}
use Rattle.machine.specs.declared.Mode.TheVariants.{Running, Slot, Asleep, Stopped}

settled :
    (flow : Flow) (mode : Mode) (before after : State) → Unchanged flow before after → after.control.pc ≡ before.control.pc →
    Admits mode flow → settle flow mode before after ≡ settle flow mode after after
settled Next mode before after kept pc admitted = rw pc
settled (Jump target) mode before after kept pc admitted = refl
settled (Delay target) Running before after kept pc admitted = refl
settled (Delay target) (Slot waiting) before after kept pc admitted = absurd admitted
settled (Delay target) Asleep before after kept pc admitted = absurd admitted
settled (Delay target) (Stopped reason) before after kept pc admitted = absurd admitted
settled Sleep mode before after kept pc admitted = rw pc
settled (Trap number) mode before after kept pc admitted = rw kept
settled Fault mode before after kept pc admitted = rw kept
settled Illegal mode before after kept pc admitted = rw kept

true_ne_false : ◌≡◌ {A = Bool} true false → ⊥
true_ne_false e = let never : ◌≡◌ {A = ℕ} 0 1 = cc in omega arith

straight_admitted : (flow : Flow) (target : ℕ) → Straight flow → Admits (Slot target) flow
straight_admitted Next target straight = tt
straight_admitted (Jump other) target straight = straight
straight_admitted (Delay other) target straight = straight
straight_admitted Sleep target straight = tt
straight_admitted (Trap number) target straight = straight
straight_admitted Fault target straight = tt
straight_admitted Illegal target straight = tt

pub admitted : (mode : Mode) (x : Meaning) (s : State) → asleep_or_stopped mode ≡ false → Admits mode (attempted (in_slot mode) x (pc_of mode s) s).flow
admitted Running x s runs = tt
admitted (Slot target) x s runs = straight_admitted (attempted true x (pc_of (Slot target) s) s).flow target (no_branch_in_slot x (pc_of (Slot target) s) s)
admitted Asleep x s runs = absurd (true_ne_false runs)
admitted (Stopped reason) x s runs = absurd (true_ne_false runs)

pub settles_by_what_is_left :
    (mode : Mode) (x : Meaning) (s : State) → asleep_or_stopped mode ≡ false →
    settle (attempted (in_slot mode) x (pc_of mode s) s).flow mode s (attempted (in_slot mode) x (pc_of mode s) s).after ≡
    settle (attempted (in_slot mode) x (pc_of mode s) s).flow mode (attempted (in_slot mode) x (pc_of mode s) s).after (attempted (in_slot mode) x (pc_of mode s) s).after
settles_by_what_is_left mode x s runs =
    settled (attempted (in_slot mode) x (pc_of mode s) s).flow mode s (attempted (in_slot mode) x (pc_of mode s) s).after
    (attempt_changes_nothing (in_slot mode) x (pc_of mode s) s) (attempt_keeps_pc (in_slot mode) x (pc_of mode s) s) (admitted mode x s runs)

pub admits_flow :
    (mode : Mode) (x : Meaning) (s : State) (flow : Flow) (after : State) → asleep_or_stopped mode ≡ false →
    attempted (in_slot mode) x (pc_of mode s) s ≡ leads flow after → Admits mode flow
admits_flow mode x s flow after runs e =
    let same : (attempted (in_slot mode) x (pc_of mode s) s).flow ≡ flow = ap (λ (y : Effect). y.flow) e in
    rw (sym same) (admitted mode x s runs)

pub step_settles :
    (mode : Mode) (s : State) (w : ℕ) (flow : Flow) (after : State) → asleep_or_stopped mode ≡ false →
    loaded 2 s.memory s.control.pc ≡ Some w → attempted (in_slot mode) (meaning w) (pc_of mode s) s ≡ leads flow after →
    step (at mode s) ≡ settle flow mode after after
unfolding step
step_settles mode s w flow after runs word e = rw (runs, word, settles_by_what_is_left mode (meaning w) s runs, e)

pub fetch_fails :
    (mode : Mode) (s : State) → asleep_or_stopped mode ≡ false → loaded 2 s.memory s.control.pc ≡ None →
    step (at mode s) ≡ raise address_error (saved_pc mode s.control.pc) s
unfolding step
fetch_fails mode s runs fault = rw (runs, fault)
