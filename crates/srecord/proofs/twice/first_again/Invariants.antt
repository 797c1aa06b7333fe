-- `first_again` has the first line that writes again an address below `low`, and goes on window by window.
-- Assumes nothing.
use Rattle.srecord.specs.Load.{records}
use Rattle.srecord.specs.Promises.{Finds}
use Rattle.srecord.proofs.twice.first_again.Given as goal

abbrev pub invariant-loop-low : goal.invariant-loop-low
invariant-loop-low l = Finds (records l.text) l.limit 0 l.low l.first
