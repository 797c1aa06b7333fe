-- Hexadecimal, read: document 02, requests One (either case) and Fourteen (lower case alone).
use Rattle.std.specs.Prelude.{◌≡◌, Bool, true, false, ◌&&◌, if◌then◌else◌, List, [], ◌∷◌, ℕ, ◌+◌, ◌-◌, ◌*◌, ◌/◌, ◌%◌, ◌^◌, ◌<◌, nat_le, nat_lt, Option, None, Some, option_and_then, option_map, drop, length, take}
use Rattle.text.specs.declared.reading.Letters.{Letters}
use Rattle.text.specs.declared.reading.Letters.TheVariants.{LowerCase, EitherCase}

abbrev pub between : ℕ → ℕ → ℕ → Bool
between first last byte = nat_le first byte && nat_le byte last

abbrev upper_too : Letters → Bool
upper_too LowerCase = false
upper_too EitherCase = true

-- The value of a digit's character: 0 to 9, a to f, and A to F where they are read too.
unfoldable pub digit_value : Letters → ℕ → Option ℕ
digit_value letters byte =
    if between 48 57 byte then Some (byte - 48)
    else (if between 97 102 byte then Some (byte - 87)
    else (if upper_too letters && between 65 70 byte then Some (byte - 55) else None))

-- What is promised of a digit's value: the low four bits of its character, and 9 more for a letter, which bit 6 tells from a figure.
pub record FromLowBits (byte n : ℕ) : Type 0 where
  pub gives : n ≡ byte % 16 + 9 * (byte / 64)
  pub small : n < 64

-- The number that a text's digits make behind those that have made n.
unfoldable pub read_on : Letters → ℕ → List ℕ → Option ℕ
read_on letters n [] = Some n
read_on letters n (byte ∷ rest) = option_and_then (λ d. read_on letters (n * 16 + d) rest) (digit_value letters byte)

abbrev pub value : Letters → List ℕ → Option ℕ
value letters text = read_on letters 0 text

-- The k digits at a place.
abbrev pub digits_at : Letters → List ℕ → ℕ → ℕ → Option ℕ
digits_at letters text at k = if nat_lt (length text) (at + k) then None else value letters (take k (drop at text))

-- Of a number that is too long, the low 32 bits.
abbrev pub cut_to_long : Option ℕ → Option ℕ
cut_to_long h = option_map (λ n. n % 2 ^ 32) h
