-- What `pairs` has still to write, written from where it stands, is all of it written from where it began.
-- Assumes nothing.
use Rattle.std.proofs.Common.{◌≡◌, ◌+◌, ◌*◌, drop}
use lib.Seq.{sets}
use Rattle.srecord.specs.Export.{pairs}
use Rattle.srecord.proofs.exporting.pairs.Given as goal

abbrev pub invariant-loop-i : goal.invariant-loop-i
invariant-loop-i l = sets l.buffer (l.at + 2 * l.i) (pairs (drop l.i l.bytes)) ≡ sets l.initial.buffer l.at (pairs l.bytes)
