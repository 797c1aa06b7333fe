-- `buffer` is as long as the sum of a report's longest lines.
-- Assumes nothing.
use Rattle.std.proofs.Common.{refl}
use Rattle.report.proofs.Bounds.{enough}
use Rattle.report.proofs.buffer.Goals as goal

pub returns-clause-roomy : goal.returns-clause-roomy
returns-clause-roomy c = record { zeros = refl; holds = enough }
