-- `mark` marks from `low` on: all before `i` are marked, and none of them was.
-- Assumes nothing.
use Rattle.std.proofs.Common.{false}
use Rattle.srecord.specs.Promises.{Marks, between}
use Rattle.srecord.proofs.marks.mark.Given as goal

abbrev pub invariant-loop-i : goal.invariant-loop-i
invariant-loop-i l = Marks l.initial.marks (between l.low l.i) false l.marks
