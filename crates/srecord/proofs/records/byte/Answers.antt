-- `byte` joins the values of its two digits.
-- Assumes nothing.
use Rattle.std.proofs.Common.{◌≡◌, length, rules}
use Rattle.text.proofs.Values.{value_of_digit}
use Rattle.srecord.proofs.Pairs.{pair_value, two_digits}
use Rattle.srecord.proofs.records.byte.Goals as goal

pub returns : goal.returns
returns c =
    let two : length c.args.pair ≡ 2 = search rules in
    rw (two_digits c.args.pair two)
    (pair_value _ _ (value_of_digit c.value_of_digit.ensures) (value_of_digit c.value_of_digit-2.ensures))
