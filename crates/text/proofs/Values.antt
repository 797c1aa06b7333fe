-- Laws of reading: the value of a digit, a text's digits one by one, and that what is written is read back.
-- Assumes nothing.
use Rattle.std.proofs.Common.{◌≡◌, ◌∙◌, refl, sym, ap, ℕ, zero, suc, ◌+◌, ◌*◌, ◌/◌, ◌%◌, ◌^◌, ◌<◌, ◌≤◌, Bool, true, false, ◌||◌, Option, Some, None, is_some, option_and_then, List, [], ◌∷◌, ◌++◌, length, get_or, drop, add-one, arith, drop-cons, drop_of_length-le, mod-eq_of_lt, pow-suc}
use Rattle.std.proofs.Math.Arith.{mod-mul}
use Rattle.std.proofs.Math.Nat.{one-le-pow}
use Rattle.std.proofs.lemmas.Bool.Decides.{nat_tests}
use Rattle.text.specs.Reading.{FromLowBits, between, cut_to_long, digit_value, read_on, value}
use Rattle.text.specs.Text.{digit, hex_in}
use Rattle.text.specs.declared.digits.Case.{Case}
use Rattle.text.specs.declared.digits.Case.TheVariants.{Lower, Upper}
use Rattle.text.specs.declared.reading.Letters.{Letters}
use Rattle.text.specs.declared.reading.Letters.TheVariants.{LowerCase, EitherCase}

-- A digit's value is below 16.
pub digit_small : (letters : Letters) (byte : ℕ) {d : ℕ} → Some d ≡ digit_value letters byte → d < 16
unfolding digit_value
digit_small LowerCase byte e = grind (arith, nat_tests)
digit_small EitherCase byte e = grind (arith, nat_tests)

either_way : (P : Option ℕ → Type 0) (h : Option ℕ) → ((d : ℕ) → P (Some d)) → P None → P h
either_way P (Some d) f n = f d
either_way P None f n = n

-- Of the number so far only the low 32 bits matter for the low 32 bits of the whole.
same_low :
    (letters : Letters) (text : List ℕ) (a b : ℕ) → a % 2 ^ 32 ≡ b % 2 ^ 32 →
    cut_to_long (read_on letters a text) ≡ cut_to_long (read_on letters b text)
unfolding read_on
same_low letters [] a b e = ap Some e
same_low letters (byte ∷ rest) a b e =
    either_way
    (λ h. cut_to_long (option_and_then (λ d. read_on letters (a * 16 + d) rest) h) ≡
    cut_to_long (option_and_then (λ d. read_on letters (b * 16 + d) rest) h))
    (digit_value letters byte) (λ d. same_low letters rest (a * 16 + d) (b * 16 + d) (omega arith)) refl

-- One digit of those still to be read, and none.
pub reads_on :
    (letters : Letters) (digits : List ℕ) (i n : ℕ) {d : ℕ} → i < length digits → Some d ≡ digit_value letters (get_or digits i 0) →
    cut_to_long (read_on letters (n % 0x1000_0000 * 16 + d) (drop (i + 1) digits)) ≡ cut_to_long (read_on letters n (drop i digits))
unfolding read_on
reads_on letters digits i n {d} more e =
    rw (drop-cons digits i 0 more, ← e, add-one i) (same_low letters (drop (suc i) digits) (n % 0x1000_0000 * 16 + d) (n * 16 + d) (omega arith))

pub breaks_off :
    (letters : Letters) (digits : List ℕ) (i n : ℕ) → i < length digits → None ≡ digit_value letters (get_or digits i 0) →
    None ≡ cut_to_long (read_on letters n (drop i digits))
unfolding read_on
breaks_off letters digits i n more e = rw (drop-cons digits i 0 more, ← e)

pub ends :
    (letters : Letters) (digits : List ℕ) (i n : ℕ) → length digits ≤ i → n < 2 ^ 32 → Some n ≡ cut_to_long (read_on letters n (drop i digits))
unfolding read_on
ends letters digits i n done small = rw (drop_of_length-le digits done, mod-eq_of_lt small)

-- Whether digits written in this case are read.
abbrev pub reads : Letters → Case → Bool
reads EitherCase case = true
reads LowerCase Lower = true
reads LowerCase Upper = false

digit_back :
    (letters : Letters) (case : Case) → reads letters case ≡ true → (d : ℕ) → d < 16 → digit_value letters (digit case d) ≡ Some d
unfolding digit_value
digit_back EitherCase Lower e d h = grind (arith, nat_tests)
digit_back EitherCase Upper e d h = grind (arith, nat_tests)
digit_back LowerCase Lower e d h = grind (arith, nat_tests)
digit_back LowerCase Upper e d h = cc

read_on_append :
    (letters : Letters) (n : ℕ) (x y : List ℕ) → read_on letters n (x ++ y) ≡ option_and_then (λ m. read_on letters m y) (read_on letters n x)
unfolding read_on
read_on_append letters n [] y = refl
read_on_append letters n (byte ∷ x) y =
    either_way
    (λ h. option_and_then (λ d. read_on letters (n * 16 + d) (x ++ y)) h ≡
    option_and_then (λ m. read_on letters m y) (option_and_then (λ d. read_on letters (n * 16 + d) x) h))
    (digit_value letters byte) (λ d. read_on_append letters (n * 16 + d) x y) refl

-- What is written in a case that is read is read back: the number modulo 16 to the number of digits.
pub read_back :
    (letters : Letters) (case : Case) → reads letters case ≡ true → (k n : ℕ) → value letters (hex_in case k n) ≡ Some (n % 16 ^ k)
unfolding hex_in read_on
read_back letters case e zero n = ap Some (omega arith)
read_back letters case e (suc k) n =
    read_on_append letters 0 (hex_in case k (n / 16)) (digit case (n % 16) ∷ [])
    ∙ rw (read_back letters case e k (n / 16), digit_back letters case e (n % 16) (omega arith), pow-suc 16 k)
    (ap Some (sym (mod-mul n (one-le-pow k 16 (omega arith)) (omega arith))))

-- A byte is a digit where one of the three ranges has it.
pub one_of_three :
    (byte : ℕ) → (between 48 57 byte || between 97 102 byte) || between 65 70 byte ≡ is_some (digit_value EitherCase byte)
unfolding digit_value
one_of_three byte = grind (arith, nat_tests)

-- A digit's value from the low bits of its character.
by_low_bits : (byte d : ℕ) → digit_value EitherCase byte ≡ Some d → byte % 16 + 9 * (byte / 64) ≡ d
unfolding digit_value
by_low_bits byte d e = grind (arith, nat_tests)

-- A number that is a digit's value, where the byte is a digit.
abbrev pub ValueOfDigit : ℕ → ℕ → Type 0
ValueOfDigit byte n = (d : ℕ) → digit_value EitherCase byte ≡ Some d → n ≡ d

pub value_of_digit : {byte n : ℕ} → FromLowBits byte n → ValueOfDigit byte n
value_of_digit {byte} low d is = low.gives ∙ by_low_bits byte d is
