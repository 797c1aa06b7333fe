-- `report` writes the text of the outcome.
-- Assumes nothing.
use Rattle.std.proofs.Common.{rules}
use Rattle.text.proofs.Writes.{left}
use Rattle.report.proofs.Reporting.{answered, reported}
use Rattle.report.proofs.report.Goals as goal

pub returns : goal.returns
returns c =
    let a = c.args in
    let called = c.outcome-outcome in
    let text = c.answer_text.ensures in
    let memory = called.new.memory in
    reported a.memory.now a.buffer.now called.result memory called.ensures (left (answered called.result memory text.ran text.refused) (search rules))
