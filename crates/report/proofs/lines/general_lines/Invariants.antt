-- `general_lines` has written the lines of the registers before k.
-- Assumes nothing.
use Rattle.text.specs.Writing.{Writes}
use Rattle.report.specs.Report.{general_lines}
use Rattle.report.proofs.lines.general_lines.Given as goal

abbrev pub invariant-loop-k : goal.invariant-loop-k
invariant-loop-k l = Writes (general_lines l.k l.r) l.fn.page l.page
