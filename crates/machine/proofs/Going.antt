-- A run under way: after the steps taken so far the situation is this one, and the budget is not overdrawn.
-- Assumes nothing.
use Rattle.std.proofs.Common.{◌≡◌, ℕ, ◌+◌, ◌-◌, ◌<◌, ◌≤◌, true, false, length, sym, refl, ◌∙◌, arith}
use Rattle.machine.specs.Situation.{Situation}
use Rattle.machine.specs.Run.{Ran, run}
use Rattle.machine.specs.Step.{halted, step}
use Rattle.machine.proofs.Ranges.{step_keeps_length}
use Rattle.machine.proofs.Runs.{run_halted, run_plus}

abbrev pub having : ℕ → Situation → Ran
having taken x = record { after = x; steps = taken }

pub record Going (budget : ℕ) (start : Situation) (taken : ℕ) (x : Situation) : Type 0 where
  pub ran : run taken start ≡ having taken x
  pub within : taken ≤ budget
  pub sized : length x.state.memory ≡ length start.state.memory

pub begins : (budget : ℕ) (start : Situation) → Going budget start 0 start
unfolding run
begins budget start = record { ran = refl; within = omega arith; sized = refl }

one_step : (x : Situation) → halted x ≡ false → run 1 x ≡ having 1 (step x)
unfolding run
one_step x runs = rw runs

module _ (budget : ℕ) (start : Situation) (taken : ℕ) (x : Situation) (going : Going budget start taken x) where
  pub goes_on : (y : Situation) → taken < budget → halted x ≡ false → step x ≡ y → Going budget start (taken + 1) y
  goes_on y below runs e = record {
    ran = run_plus taken 1 start ∙ rw (going.ran, one_step x runs, e);
    within = omega arith;
    sized = rw (sym e) (step_keeps_length x ∙ going.sized);
  }

  pub ends_with_the_budget : budget ≤ taken → run budget start ≡ having taken x
  ends_with_the_budget all =
      let same : budget ≡ taken = omega (arith, going.within) in
      rw same going.ran

  pub ends_halted : halted x ≡ true → run budget start ≡ having taken x
  ends_halted halts =
      let split : budget ≡ taken + (budget - taken) = omega (arith, going.within) in
      let none : taken + 0 ≡ taken = omega arith in
      rw split (run_plus taken (budget - taken) start ∙ rw (going.ran, run_halted (budget - taken) x halts, none))
