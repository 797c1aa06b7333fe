-- `run_accepted` takes steps while the budget lasts and the machine is not halted, which is what a run is.
-- Assumes nothing.
use Rattle.std.proofs.Common.{arith}
use Rattle.instructions.proofs.Answers.{met}
use Rattle.machine.proofs.Going.{begins, ends_halted, ends_with_the_budget, goes_on}
use Rattle.machine.proofs.run_loop.run_accepted.Goals as goal

pub loop-taken-init : goal.loop-taken-init
loop-taken-init c =
    begins _ _

pub advance-mode-requires : goal.advance-mode-requires
advance-mode-requires c =
    met c.is_halted.ensures c.if-not-is_halted.true

pub overflow_add-taken : goal.overflow_add-taken
overflow_add-taken c =
    record { fits = omega (arith, c.loop-taken-test.true, c.ranges.budget.fits) }

pub loop-taken-smaller : goal.loop-taken-smaller
loop-taken-smaller c =
    omega (arith, c.loop-taken-test.true)

pub loop-taken-preserved : goal.loop-taken-preserved
loop-taken-preserved c =
    goes_on _ _ _ _ c.loop-taken.invariant _ c.loop-taken-test.true (met c.is_halted.ensures c.if-not-is_halted.true) c.advance-mode.ensures

pub returns-after-loop-taken : goal.returns-after-loop-taken
returns-after-loop-taken c =
    rw (ends_with_the_budget _ _ _ _ c.loop-taken.invariant c.loop-taken-test.false)

pub returns-else-not-is_halted : goal.returns-else-not-is_halted
returns-else-not-is_halted c =
    rw (ends_halted _ _ _ _ c.loop-taken.invariant (met c.is_halted.ensures c.if-not-is_halted.false))
