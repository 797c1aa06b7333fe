-- `step` is a run with budget 1.
-- Assumes nothing.
use Rattle.std.proofs.Common.{◌∙◌}
use Rattle.machine.proofs.Calling.{step_call_is_a_run_call_of_1}
use Rattle.machine.proofs.calls.step.Goals as goal

pub returns : goal.returns
returns c =
    let a = c.args in
    c.run.ensures ∙ step_call_is_a_run_call_of_1 a.machine a.memory.now
