-- What `hex_value` has still to read, behind the number so far, gives what the k digits give.
-- Assumes nothing.
use Rattle.std.proofs.Common.{◌≡◌, ◌^◌, ◌<◌, drop}
use Rattle.text.specs.Reading.{cut_to_long, digits_at, read_on}
use Rattle.text.proofs.reading.hex_value.Given as goal

abbrev pub invariant-loop-byte : goal.invariant-loop-byte
invariant-loop-byte l =
    (l.n < 2 ^ 32) × (cut_to_long (read_on l.letters l.n (drop l.byte-index l.digits)) ≡ cut_to_long (digits_at l.letters l.text l.at l.k))
