-- What `added` has read, with the bytes of the digits that are left, sums up to all of them.
-- Assumes nothing.
use Rattle.std.proofs.Common.{◌≡◌, ◌+◌, ◌*◌, ◌/◌, ◌<◌, ◌∙◌, [], length, get_or, drop, arith}
use Rattle.std.specs.Simd.{first_chunks}
use Rattle.text.proofs.Values.{value_of_digit}
use Rattle.srecord.proofs.Pairs.{ends_good, odd, one_pair, pair_among, pair_at, two_off}
use Rattle.srecord.proofs.records.added.Goals as goal

pub returns-then-digits-ne0 : goal.returns-then-digits-ne0
returns-then-digits-ne0 c = odd c.args.digits.now c.if-digits-ne0.true

pub loop-high-preserved : goal.loop-high-preserved
loop-high-preserved c =
    let digits = c.args.digits.now in
    let now = c.loop-high in
    let i = now.high-index in
    let pairs : c.as_chunks.result.0.now ≡ first_chunks 2 (length digits / 2) digits = c.as_chunks.ensures.front in
    let many : length c.as_chunks.result.0.now ≡ length digits / 2 = c.as_chunks.ensures.front_len in
    let inside : 2 * i + 1 < length digits = omega (arith, many) in
    let here : get_or c.as_chunks.result.0.now i [] ≡ pair_at digits i =
    rw pairs (pair_among (length digits / 2) digits i (omega arith) (omega (arith, many)) []) in
    let pair =
    one_pair (get_or digits (2 * i) 0) (get_or digits (2 * i + 1) 0) (drop (2 * (i + 1)) digits)
    (value_of_digit (rw here at c.value_of_digit.ensures)) (value_of_digit (rw here at c.value_of_digit-in-loop-high.ensures)) now.good
    now.sum in
    rw (c.is_digit.ensures, c.is_digit-in-loop-high.ensures, here) (pair ∙ rw (two_off digits i inside) at now.invariant)

pub returns-then-good : goal.returns-then-good
returns-then-good c =
    let digits = c.args.digits.now in
    let now = c.loop-high in
    let many : length c.as_chunks.result.0.now ≡ length digits / 2 = c.as_chunks.ensures.front_len in
    let done : 2 * now.high-index ≡ length digits = omega (arith, many) in
    ends_good digits now.sum now.high-index now.good done c.if-good.true now.invariant
