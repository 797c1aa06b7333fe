-- The sum so far with the sum of the bytes still to come is the whole sum, in its low byte.
-- Assumes nothing.
use Rattle.std.proofs.Common.{◌≡◌, ◌+◌, ◌%◌, drop}
use Rattle.srecord.specs.Load.{sum}
use Rattle.srecord.proofs.exporting.sum.Given as goal

abbrev pub invariant-loop-byte : goal.invariant-loop-byte
invariant-loop-byte l = (l.total + sum (drop l.byte-index l.bytes)) % 256 ≡ sum l.bytes % 256
