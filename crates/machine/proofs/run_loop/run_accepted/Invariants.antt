-- `run_accepted` takes steps while the budget lasts and the machine is not halted, which is what a run is.
-- Assumes nothing.
use Rattle.std.proofs.Common.{◌-◌}
use Rattle.instructions.specs.Promises.{state}
use Rattle.machine.specs.Situation.{at, over}
use Rattle.machine.proofs.Going.{Going}
use Rattle.machine.proofs.run_loop.run_accepted.Given as goal

abbrev pub invariant-loop-taken : goal.invariant-loop-taken
invariant-loop-taken l =
    Going l.budget (over l.fn.machine l.initial.memory) l.taken (at l.mode (state l.r l.control l.memory))

abbrev pub decreases-loop-taken : goal.decreases-loop-taken
decreases-loop-taken l = l.budget - l.taken
