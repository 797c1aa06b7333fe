-- What `sweep` finds of the lines that are left, with what it knows of those before, is what it finds of all.
-- Assumes nothing.
use Rattle.std.proofs.Common.{◌≡◌, ◌+◌, ◌≤◌, length}
use Rattle.srecord.specs.Load.{records}
use Rattle.srecord.specs.Promises.{fresh, swept}
use Rattle.srecord.proofs.sweep.sweep.Given as goal

abbrev pub invariant-loop-line : goal.invariant-loop-line
invariant-loop-line l =
    let rest = l.line-iterator.rest.now in
    (l.n + length rest ≤ length l.text)
    × (l.s.count ≤ l.n)
    × (swept l.size 0 fresh (records l.text) ≡ swept l.size l.n l.s (records rest))
