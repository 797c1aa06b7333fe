-- Laws of bytes read from pairs of digits.
-- Assumes nothing.
use Rattle.std.proofs.Common.{◌≡◌, ℕ, zero, suc, ◌+◌, ◌-◌, ◌*◌, ◌/◌, ◌%◌, ◌^◌, ◌<◌, ◌≤◌, Bool, true, false, ◌&&◌, List, [], ◌∷◌, length, get_or, drop, take, sym, refl, ap, ◌∙◌, not-suc-le-zero, pow-suc, add-one, arith, length-take, get_or-drop, get_or-take, drop-cons, Option, None, Some}
use native.Mathlib.Nat.{pow-le-pow_right}
use lib.Seq.{drop-length}
use Rattle.memory.specs.Access.{value_at}
use Rattle.text.specs.Reading.{digit_value, read_on, value}
use Rattle.text.specs.declared.reading.Letters.TheVariants.{EitherCase}
use Rattle.text.proofs.Values.{ValueOfDigit, digit_small}
use Rattle.srecord.specs.Records.{before, bytes_of}
use Rattle.srecord.specs.Load.{sum}
use Rattle.std.specs.Option.{is_some, option_and_then, option_map}
use Rattle.std.specs.Simd.{first_chunks}
use Rattle.srecord.specs.Promises.{ByteOf, Make}

pub never : {A : Type 0} {a : A} → None ≡ Some a → ⊥
never e = let z : ◌≡◌ {A = ℕ} 0 1 = cc in omega arith

-- A pair's byte, by its two digits.
abbrev pub joined : Option ℕ → Option ℕ → Option ℕ
joined (Some h) (Some l) = Some (h * 16 + l)
joined (Some h) None = None
joined None l = None

pub of_two : (a b : ℕ) → value EitherCase (a ∷ b ∷ []) ≡ joined (digit_value EitherCase a) (digit_value EitherCase b)
unfolding read_on
of_two a b = go (digit_value EitherCase a) (digit_value EitherCase b)
  where
    go : (h l : Option ℕ) → option_and_then (λ m. option_and_then (λ n. Some ((0 * 16 + m) * 16 + n)) l) h ≡ joined h l
    go (Some h) (Some l) = ap Some (omega arith)
    go (Some h) None = refl
    go None l = refl

-- A pair that is read, in front of bytes that are.
module _ (h l : ℕ) (rest bytes : List ℕ) where
  taken_apart :
      bytes_of (h ∷ l ∷ rest) ≡ Some bytes →
      (b : ℕ) × (more : List ℕ) × (bytes ≡ b ∷ more) × (value EitherCase (h ∷ l ∷ []) ≡ Some b) × (bytes_of rest ≡ Some more)
  unfolding bytes_of
  taken_apart = go (value EitherCase (h ∷ l ∷ [])) (bytes_of rest)
    where
      go :
          (r : Option ℕ) (o : Option (List ℕ)) → before r o ≡ Some bytes →
          (b : ℕ) × (more : List ℕ) × (bytes ≡ b ∷ more) × (r ≡ Some b) × (o ≡ Some more)
      go (Some b) (Some more) e = (b, more, cc, refl, refl)
      go (Some b) None e = absurd (never e)
      go None o e = absurd (never e)

pub twice_as_long : (digits bytes : List ℕ) → bytes_of digits ≡ Some bytes → length digits ≡ 2 * length bytes
unfolding bytes_of
twice_as_long [] bytes e = let same : bytes ≡ [] = cc in rw same
twice_as_long (a ∷ []) bytes e = absurd (never e)
twice_as_long (a ∷ b ∷ rest) bytes e =
    let t = taken_apart a b rest bytes e in
    rw t.2 (omega (arith, twice_as_long rest t.1 t.4))

-- The pair of digits number i, and the byte that it makes.
abbrev pub pair_at : List ℕ → ℕ → List ℕ
pair_at digits i = get_or digits (2 * i) 0 ∷ get_or digits (2 * i + 1) 0 ∷ []

pub pair_of :
    (digits bytes : List ℕ) → bytes_of digits ≡ Some bytes → (i : ℕ) → i < length bytes → value EitherCase (pair_at digits i) ≡ Some (get_or bytes i 0)
unfolding bytes_of
pair_of [] bytes e i inside = let same : bytes ≡ [] = cc in absurd (not-suc-le-zero (rw same at inside))
pair_of (a ∷ []) bytes e i inside = absurd (never e)
pair_of (a ∷ b ∷ rest) bytes e zero inside = let t = taken_apart a b rest bytes e in rw t.2 t.3
pair_of (a ∷ b ∷ rest) bytes e (suc i) inside =
    let t = taken_apart a b rest bytes e in
    let shorter : length bytes ≡ suc (length t.1) = ap length t.2 in
    let high : 2 * suc i ≡ suc (suc (2 * i)) = omega arith in
    let low : 2 * suc i + 1 ≡ suc (suc (2 * i + 1)) = omega arith in
    rw (t.2, low, high) (pair_of rest t.1 t.4 i (omega arith))

pub two_digits : (pair : List ℕ) → length pair ≡ 2 → pair ≡ get_or pair 0 0 ∷ get_or pair 1 0 ∷ []
two_digits [] two = absurd (omega arith)
two_digits (a ∷ []) two = absurd (omega arith)
two_digits (a ∷ b ∷ []) two = refl
two_digits (a ∷ b ∷ x ∷ rest) two = absurd (omega arith)

-- The byte of a pair of digits, by the digits' values.
module _ (a b : ℕ) where
  by_values :
      (n : ℕ) → value EitherCase (a ∷ b ∷ []) ≡ Some n →
      (h : ℕ) × (l : ℕ) × (digit_value EitherCase a ≡ Some h) × (digit_value EitherCase b ≡ Some l) × (n ≡ h * 16 + l)
  by_values n e = go (digit_value EitherCase a) (digit_value EitherCase b) (sym (of_two a b) ∙ e)
    where
      go :
          (r s : Option ℕ) → joined r s ≡ Some n →
          (h : ℕ) × (l : ℕ) × (r ≡ Some h) × (s ≡ Some l) × (n ≡ h * 16 + l)
      go (Some h) (Some l) e = (h, l, refl, refl, cc)
      go (Some h) None e = let z : ◌≡◌ {A = ℕ} 0 1 = cc in absurd (omega arith)
      go None s e = let z : ◌≡◌ {A = ℕ} 0 1 = cc in absurd (omega arith)

  pub pair_small : (n : ℕ) → value EitherCase (a ∷ b ∷ []) ≡ Some n → n < 256
  pair_small n e =
      let v = by_values n e in
      let high = digit_small EitherCase a (sym v.2) in
      let low = digit_small EitherCase b (sym v.3) in
      omega (arith, v.4)

  pub pair_value :
      {h l : ℕ} → ValueOfDigit a h → ValueOfDigit b l → (n : ℕ) → value EitherCase (a ∷ b ∷ []) ≡ Some n → (h * 16 + l) % 256 ≡ n
  pair_value {h} {l} high low n e =
      let v = by_values n e in
      let small = pair_small n e in
      omega (arith, v.4, high v.0 v.2, low v.1 v.3)

-- The low byte of the sum, where there are bytes.
abbrev pub total_of : Option (List ℕ) → Option ℕ
total_of x = option_map (λ bytes. sum bytes % 256) x

-- The sum over what was read, with what is left.
abbrev pub with_rest : Bool → ℕ → Option (List ℕ) → Option ℕ
with_rest good s None = None
with_rest false s (Some bytes) = None
with_rest true s (Some bytes) = Some ((s + sum bytes) % 256)

-- Behind the last digit.
module _ (digits : List ℕ) (s i : ℕ) (good : Bool) (done : 2 * i ≡ length digits) where
  none_left : drop (2 * i) digits ≡ []
  none_left = rw done (drop-length digits)

  pub ends_good :
      good ≡ true → with_rest good s (bytes_of (drop (2 * i) digits)) ≡ total_of (bytes_of digits) → Some (s % 256) ≡ total_of (bytes_of digits)
  unfolding bytes_of
  ends_good e inv = ap Some (omega arith) ∙ rw (e, none_left) at inv

pub one_pair :
    (a b : ℕ) (rest : List ℕ) {h l : ℕ} → ValueOfDigit a h → ValueOfDigit b l → (good : Bool) (s : ℕ) →
    with_rest ((good && is_some (digit_value EitherCase a)) && is_some (digit_value EitherCase b)) ((s + (h * 16 + l)) % 2 ^ 32) (bytes_of rest) ≡
    with_rest good s (bytes_of (a ∷ b ∷ rest))
unfolding bytes_of
one_pair a b rest {h} {l} high low good s =
    rw (of_two a b) (go (digit_value EitherCase a) (digit_value EitherCase b) (bytes_of rest) good high low)
  where
    go :
        (r t : Option ℕ) (o : Option (List ℕ)) (good : Bool) → ((d : ℕ) → r ≡ Some d → h ≡ d) → ((d : ℕ) → t ≡ Some d → l ≡ d) →
        with_rest ((good && is_some r) && is_some t) ((s + (h * 16 + l)) % 2 ^ 32) o ≡ with_rest good s (before (joined r t) o)
    go (Some x) (Some y) (Some bytes) true p q =
        let hx = p x refl in let ly = q y refl in rw (hx, ly) (ap Some (omega arith))
    go (Some x) (Some y) (Some bytes) false p q = refl
    go (Some x) (Some y) None good p q = refl
    go (Some x) None (Some bytes) true p q = refl
    go (Some x) None (Some bytes) false p q = refl
    go (Some x) None None good p q = refl
    go None t (Some bytes) true p q = refl
    go None t (Some bytes) false p q = refl
    go None t None good p q = refl

-- An odd number of digits makes no bytes.
pub odd : (digits : List ℕ) → (length digits % 2 ≡ 0 → ⊥) → None ≡ total_of (bytes_of digits)
odd digits uneven = go (bytes_of digits) refl
  where
    go : (o : Option (List ℕ)) → bytes_of digits ≡ o → None ≡ total_of o
    go None e = refl
    go (Some bytes) e = absurd (uneven (omega (arith, twice_as_long digits bytes e)))

-- Two digits taken off.
pub two_off :
    (digits : List ℕ) (i : ℕ) → 2 * i + 1 < length digits →
    drop (2 * i) digits ≡ get_or digits (2 * i) 0 ∷ get_or digits (2 * i + 1) 0 ∷ drop (2 * (i + 1)) digits
two_off digits i inside =
    let first : 2 * i + 1 ≡ suc (2 * i) = omega arith in
    let second : 2 * (i + 1) ≡ suc (suc (2 * i)) = omega arith in
    rw (drop-cons digits (2 * i) 0 (omega arith), first, second, drop-cons digits (suc (2 * i)) 0 (omega arith))

-- The digits cut into pairs.
pub pair_among :
    (n : ℕ) (digits : List ℕ) (i : ℕ) → 2 * n ≤ length digits → i < n → (d : List ℕ) → get_or (first_chunks 2 n digits) i d ≡ pair_at digits i
pair_among zero digits i room inside d = absurd (not-suc-le-zero inside)
pair_among (suc n) [] i room inside d = absurd (omega arith)
pair_among (suc n) (a ∷ []) i room inside d = absurd (omega arith)
pair_among (suc n) (a ∷ b ∷ digits) zero room inside d = refl
pair_among (suc n) (a ∷ b ∷ digits) (suc i) room inside d =
    let high : 2 * suc i ≡ suc (suc (2 * i)) = omega arith in
    let low : suc (suc (2 * i)) + 1 ≡ suc (suc (2 * i + 1)) = omega arith in
    rw (high, low) (pair_among n digits i (omega arith) (omega arith) d)

-- They make the bytes that the digits make,
pub pairs_make :
    (digits bytes : List ℕ) → bytes_of digits ≡ Some bytes → (i : ℕ) → i < length bytes →
    value EitherCase (get_or (first_chunks 2 (length digits / 2) digits) i []) ≡ Some (get_or bytes i 0)
pairs_make digits bytes known i inside =
    let long = twice_as_long digits bytes known in
    rw (pair_among (length digits / 2) digits i (omega arith) (omega (arith, long)) []) (pair_of digits bytes known i inside)

-- and a part of them makes a part of these.
pub part_makes :
    (pairs : List (List ℕ)) (bytes : List ℕ) (n : ℕ) →
    ((i : ℕ) → i < n → value EitherCase (get_or pairs i []) ≡ Some (get_or bytes i 0)) → (from to : ℕ) → to ≤ n →
    Make (take (to - from) (drop from pairs)) bytes from
part_makes pairs bytes n make from to few i inside =
    let part : i < to - from = omega (arith, length-take (to - from) (drop from pairs)) in
    rw (get_or-take (to - from) (drop from pairs) i [] part, get_or-drop from pairs i []) (make (from + i) (omega arith))

-- A number read byte by byte.
abbrev pub SoFar : List (List ℕ) → ℕ → ℕ → Type 0
SoFar pairs i n = (bytes : List ℕ) (at : ℕ) → Make pairs bytes at → n ≡ value_at i bytes at

pub none_yet : (pairs : List (List ℕ)) → SoFar pairs 0 0
unfolding value_at
none_yet pairs bytes at make = refl

pub below_power : (n i : ℕ) → n < 256 ^ i → i < 4 → n < 16777216
below_power n i small few =
    let most : 256 ^ i ≤ 256 ^ 3 = pow-le-pow_right {n = 256} (omega arith) {i = i} {j = 3} (omega arith) in
    omega arith

pub power_more : (n b i : ℕ) → n < 256 ^ i → b < 256 → n * 256 + b < 256 ^ (i + 1)
power_more n b i small byte = rw (add-one i, pow-suc 256 i) (omega arith)

pub byte_more :
    (pairs : List (List ℕ)) (i n b : ℕ) → i < length pairs → ByteOf (get_or pairs i []) b → SoFar pairs i n → SoFar pairs (i + 1) (n * 256 + b)
unfolding value_at
byte_more pairs i n b inside here before bytes at make =
    rw (add-one i, before bytes at make, here (get_or bytes (at + i) 0) (make i inside))
