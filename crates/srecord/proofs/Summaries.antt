-- What the code keeps of a record, from the bytes of its digits.
-- Assumes nothing.
use Rattle.std.proofs.Common.{◌≡◌, ℕ, ◌+◌, ◌-◌, ◌/◌, ◌%◌, ◌<◌, ◌≤◌, true, false, eqb, List, [], ◌∷◌, length, get_or, take, drop, sym, refl, ap, ◌∙◌, arith, length-drop, length-take, length-take-le, eq-eqb, ne_eqb, eqb-true, leb-true, Option, None, Some}
use Rattle.std.specs.List.{slice_get}
use Rattle.std.specs.Option.{option_map}
use Rattle.std.specs.Simd.{first_chunks}
use Rattle.memory.specs.Access.{value_at}
use Rattle.text.specs.Reading.{value}
use Rattle.text.specs.declared.reading.Letters.TheVariants.{EitherCase}
use Rattle.srecord.specs.Records.{Record, bytes_of, carried, data_for, fits, may}
use Rattle.srecord.specs.Load.{sum}
use Rattle.srecord.specs.Promises.{ByteOf, NumberOf, length_for, summary, with_bytes}
use Rattle.srecord.specs.declared.openings.Kind.{Kind}
use Rattle.srecord.specs.declared.openings.Kind.TheVariants.{Header, Data, Count, Closing}
use Rattle.srecord.specs.declared.openings.Opening.{Opening}
use Rattle.srecord.proofs.Pairs.{never, pairs_make, part_makes, twice_as_long}

-- A first pair, or none.
pub first_pair : (pairs : List (List ℕ)) {p : List ℕ} → Some p ≡ slice_get pairs 0 → (0 < length pairs) × (get_or pairs 0 [] ≡ p)
first_pair [] e = absurd (never (sym e))
first_pair (x ∷ rest) e = (omega arith, cc)

pub no_pair : (pairs : List (List ℕ)) → None ≡ slice_get pairs 0 → length pairs ≡ 0
no_pair [] e = refl
no_pair (x ∷ rest) e = absurd (never e)

-- What a sum tells of the digits.
pub sum_known :
    (x : Option (List ℕ)) {s : ℕ} → Some s ≡ option_map (λ bytes. sum bytes % 256) x →
    (bytes : List ℕ) × (x ≡ Some bytes) × (s ≡ sum bytes % 256)
sum_known None e = absurd (never (sym e))
sum_known (Some bytes) e = (bytes, refl, cc)

pub may_least : (kind : Kind) (least count : ℕ) → may kind least count ≡ true → least ≤ count
may_least Header least count e = leb-true least count e
may_least Data least count e = leb-true least count e
may_least Count least count e = let same : count ≡ least = eqb-true count least e in omega arith
may_least Closing least count e = let same : count ≡ least = eqb-true count least e in omega arith

pub length_for_data : (kind : Kind) (bytes : List ℕ) → length_for kind (length bytes) ≡ length (data_for kind bytes)
length_for_data Header bytes = refl
length_for_data Data bytes = refl
length_for_data Count bytes = refl
length_for_data Closing bytes = refl

-- The pairs behind the first.
pub number_length : (pairs : List (List ℕ)) (width : ℕ) → width < length pairs → length (take (width + 1 - 1) (drop 1 pairs)) ≡ width
number_length pairs width less =
    length-take (width + 1 - 1) (drop 1 pairs) ∙ rw (length-drop 1 pairs) (omega arith)

-- The pairs of the digits, as the code cuts them.
pub record Cut (digits : List ℕ) (pairs : List (List ℕ)) : Type 0 where
  pub front : pairs ≡ first_chunks 2 (length digits / 2) digits
  pub many : length pairs ≡ length digits / 2

module _ {digits bytes : List ℕ} {pairs : List (List ℕ)} (cut : Cut digits pairs) (known : bytes_of digits ≡ Some bytes) where
  as_many : length pairs ≡ length bytes
  as_many = omega (arith, cut.many, twice_as_long digits bytes known)

  make : (i : ℕ) → i < length bytes → value EitherCase (get_or pairs i []) ≡ Some (get_or bytes i 0)
  make i inside = rw cut.front (pairs_make digits bytes known i inside)

  pub first_byte : {p : List ℕ} (b : ℕ) → Some p ≡ slice_get pairs 0 → ByteOf p b → b ≡ get_or bytes 0 0
  first_byte b first here =
      let f = first_pair pairs first in
      here (get_or bytes 0 0) (rw (← f.1) (make 0 (omega (arith, as_many, f.0))))

  module _ (o : Opening) where
    unfit : fits o bytes ≡ false → None ≡ option_map summary (with_bytes o (bytes_of digits))
    unfit e = rw (known, e)

    pub no_bytes : None ≡ slice_get pairs 0 → None ≡ option_map summary (with_bytes o (bytes_of digits))
    no_bytes first =
        let empty : length bytes ≡ 0 = sym as_many ∙ no_pair pairs first in
        unfit (rw (empty, ne_eqb 0 (get_or bytes 0 0 + 1) (λ e. omega arith)))

    module _ (count : ℕ) (counted : count ≡ get_or bytes 0 0) where
      pub wrong_count : (length pairs ≡ count + 1 → ⊥) → None ≡ option_map summary (with_bytes o (bytes_of digits))
      wrong_count other =
          unfit (rw (ne_eqb (length bytes) (get_or bytes 0 0 + 1) (λ e. other (as_many ∙ e ∙ ap (λ n. n + 1) (sym counted)))))

      module _ (right : length pairs ≡ count + 1) where
        equal : eqb (length bytes) (get_or bytes 0 0 + 1) ≡ true
        equal = eq-eqb (length bytes) (get_or bytes 0 0 + 1) (sym as_many ∙ right ∙ ap (λ n. n + 1) counted)

        pub may_not : may o.kind (o.width + 1) count ≡ false → None ≡ option_map summary (with_bytes o (bytes_of digits))
        may_not e = unfit (rw (equal, sym counted, e))

        abbrev r : Record
        r = record { opening = o; bytes = bytes }

        carried_length : o.width + 1 ≤ count → length (carried r) ≡ count - (o.width + 1)
        carried_length least =
            let all : length bytes ≡ count + 1 = sym as_many ∙ right in
            rw (sym counted)
            (length-take-le (count - (o.width + 1)) (drop (o.width + 1) bytes) (rw (length-drop (o.width + 1) bytes, all) (omega arith)))

        pub is_record :
            {n s : ℕ} → may o.kind (o.width + 1) count ≡ true → NumberOf (take (o.width + 1 - 1) (drop 1 pairs)) n →
            s ≡ sum bytes % 256 →
            Some (record { opening = o; address = n; length = length_for o.kind (count - (o.width + 1)); checks = eqb s 255 }) ≡
            option_map summary (with_bytes o (bytes_of digits))
        is_record {n} {s} e number summed =
            let fit : fits o bytes ≡ true = rw (equal, sym counted, e) in
            let least = may_least o.kind (o.width + 1) count e in
            let inside : o.width + 1 ≤ length bytes = omega (arith, as_many, right, least) in
            let long : length (take (o.width + 1 - 1) (drop 1 pairs)) ≡ o.width = number_length pairs o.width (omega (arith, right, least)) in
            let address_read : n ≡ value_at o.width bytes 1 =
            rw long at (number bytes 1 (part_makes pairs bytes (length bytes) make 1 (o.width + 1) inside)) in
            rw (known, fit, sym (length_for_data o.kind (carried r)), carried_length least, sym summed, sym address_read)
