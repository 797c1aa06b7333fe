-- What `added` has read, with the bytes of the digits that are left, sums up to all of them.
-- Assumes nothing.
use Rattle.std.proofs.Common.{◌≡◌, ◌*◌, drop}
use Rattle.srecord.specs.Records.{bytes_of}
use Rattle.srecord.proofs.Pairs.{total_of, with_rest}
use Rattle.srecord.proofs.records.added.Given as goal

abbrev pub invariant-loop-high : goal.invariant-loop-high
invariant-loop-high l = with_rest l.good l.sum (bytes_of (drop (2 * l.high-index) l.digits)) ≡ total_of (bytes_of l.digits)
