-- `again_in` passes line after line: none of them wrote an address of the window again, and the marks are on what they wrote.
-- Assumes nothing.
use Rattle.std.proofs.Common.{◌≡◌, ◌+◌}
use Rattle.srecord.specs.Load.{records}
use Rattle.srecord.proofs.Repeats.{Passed, Reached}
use Rattle.srecord.proofs.twice.again_in.Given as goal

abbrev pub invariant-loop-n : goal.invariant-loop-n
invariant-loop-n l =
    let n = l.n-iterator.count in
    (n + l.n-iterator.iter.n ≡ l.limit)
    × Reached l.text l.n-iterator.iter.iter.rest.now n
    × Passed (records l.text) l.low n l.marks
