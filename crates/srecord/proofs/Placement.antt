-- Laws of data written into the memory, byte by byte and line by line.
-- Assumes nothing.
use Rattle.std.proofs.Common.{◌≡◌, ℕ, suc, ◌+◌, ◌-◌, ◌*◌, ◌/◌, ◌<◌, ◌≤◌, Bool, true, false, cond, eqb, List, [], ◌∷◌, map, length, get_or, take, drop, set, sym, refl, ap, ◌∙◌, le_refl, add-one, arith, length-drop, length-take, length-take-le, get_or-drop, take_all, drop-cons, get_or-take, take-take, eqb-true, Option, None, Some}
use mathlib.Core.Bool.{and-eq-true_iff}
use lib.Seq.{sets}
use Rattle.std.specs.List.{slice_get}
use Rattle.std.specs.Simd.{first_chunks}
use Rattle.text.specs.Reading.{value}
use Rattle.text.specs.declared.reading.Letters.TheVariants.{EitherCase}
use Rattle.srecord.specs.Lines.{content, ends_in, lines, without_last}
use Rattle.srecord.specs.Load.{placed, records}
use Rattle.srecord.specs.Records.{Record, and_then, address, bytes_of, carried, data_for, data_of, fits, may, opening_of, record_of}
use Rattle.srecord.specs.Promises.{ByteOf, Make, NumberOf, length_for, placed_by, with_bytes}
use Rattle.srecord.specs.declared.openings.Kind.{Kind}
use Rattle.srecord.specs.declared.openings.Kind.TheVariants.{Header, Data, Count, Closing}
use Rattle.srecord.specs.declared.openings.Opening.{Opening}
use Rattle.srecord.proofs.Cutting.{no_line}
use Rattle.srecord.proofs.Pairs.{never, pair_of, pair_among, part_makes, twice_as_long}
use Rattle.srecord.proofs.Summaries.{Cut, first_pair, length_for_data, may_least, no_pair, number_length}

-- What is left to write of the bytes that pairs of digits make, behind the first i.
abbrev pub StillPlaces : List (List ℕ) → List ℕ → ℕ → ℕ → List ℕ → Type 0
StillPlaces pairs memory address i now =
    (bytes : List ℕ) → length bytes ≡ length pairs → Make pairs bytes 0 → sets now (address + i) (drop i bytes) ≡ sets memory address bytes

module _ (pairs : List (List ℕ)) (memory : List ℕ) (address : ℕ) where
  module _ (i : ℕ) (now : List ℕ) (still : StillPlaces pairs memory address i now) where
    pub one_placed :
        (b : ℕ) → i < length pairs → ByteOf (get_or pairs i []) b → StillPlaces pairs memory address (i + 1) (set now (address + i) b)
    one_placed b more here bytes all make =
        let next : address + (i + 1) ≡ suc (address + i) = omega arith in
        let inside : i < length bytes = omega arith in
        let first : 0 + i ≡ i = omega arith in
        rw (next, add-one i, here (get_or bytes i 0) (rw first at (make i more))) (rw (drop-cons bytes i 0 inside) at (still bytes all make))

-- One line after the other.
pub line_placed :
    (memory x rest more : List ℕ) → lines rest ≡ x ∷ lines more →
    placed (placed_by memory (record_of x)) (records more) ≡ placed memory (records rest)
unfolding placed
line_placed memory x rest more cuts = rw (ap (map record_of) cuts) (go (record_of x))
  where
    go : (o : Option Record) → placed (placed_by memory o) (records more) ≡ placed memory (o ∷ records more)
    go None = refl
    go (Some r) = refl

pub nothing_to_place : (memory rest : List ℕ) → length rest ≡ 0 → memory ≡ placed memory (records rest)
unfolding placed
nothing_to_place memory rest none_left = rw (no_line rest none_left)

-- All that stands behind the opening.
pub whole : (line : List ℕ) → take (length line - 2) (drop 2 line) ≡ drop 2 line
whole line = take_all (length line - 2) (drop 2 line) (rw (length-drop 2 line) (le_refl (length line - 2)))

pub cut_behind :
    (line : List ℕ) {pairs : List (List ℕ)} → pairs ≡ first_chunks 2 (length (take (length line - 2) (drop 2 line)) / 2) (take (length line - 2) (drop 2 line)) →
    length pairs ≡ length (take (length line - 2) (drop 2 line)) / 2 → Cut (drop 2 line) pairs
cut_behind line front many = record { front = rw (whole line) at front; many = rw (whole line) at many }

-- A line's content is a part of the line, from its begin.
content_takes : (line c : List ℕ) → content line ≡ Some c → (e : ℕ) × (c ≡ take e line) × (e ≤ length line)
unfolding content
content_takes line c = go (ends_in 10 line) (ends_in 13 (without_last line))
  where
    go :
        (feed return : Bool) →
        cond feed (Some (cond return (without_last (without_last line)) (without_last line))) None ≡ Some c →
        (e : ℕ) × (c ≡ take e line) × (e ≤ length line)
    go true true e =
        let same : without_last (without_last line) ≡ c = cc in
        let shorter : length (without_last line) ≤ length line - 1 = rw (length-take (length line - 1) line) (omega arith) in (
          length (without_last line) - 1,
          sym same ∙ take-take (length (without_last line) - 1) (length line - 1) line (omega arith),
          omega arith,
        )
    go true false e = let same : without_last line ≡ c = cc in (length line - 1, sym same, omega arith)
    go false return e = absurd (never e)

-- A record taken apart into the steps that read it.
abbrev opened : Option Opening → List ℕ → Option Record
opened x line = and_then x (λ o. with_bytes o (bytes_of (drop 2 line)))

abbrev ended : Option (List ℕ) → Option Record
ended x = and_then x (λ line. opened (opening_of line) line)

of_ended : (x : Option (List ℕ)) (r : Record) → ended x ≡ Some r → (c : List ℕ) × (x ≡ Some c) × (opened (opening_of c) c ≡ Some r)
of_ended None r e = absurd (never e)
of_ended (Some c) r e = (c, refl, e)

of_opened :
    (x : Option Opening) (line : List ℕ) (r : Record) → opened x line ≡ Some r →
    (o : Opening) × (x ≡ Some o) × (with_bytes o (bytes_of (drop 2 line)) ≡ Some r)
of_opened None line r e = absurd (never e)
of_opened (Some o) line r e = (o, refl, e)

of_bytes :
    (o : Opening) (x : Option (List ℕ)) (r : Record) → with_bytes o x ≡ Some r →
    (x ≡ Some r.bytes) × (fits r.opening r.bytes ≡ true) × (o ≡ r.opening)
of_bytes o None r e = absurd (never e)
of_bytes o (Some bytes) r e = go (fits o bytes) refl e
  where
    go :
        (t : Bool) → fits o bytes ≡ t → cond t (Some (record { opening = o; bytes = bytes })) None ≡ Some r →
        (Some bytes ≡ Some r.bytes) × (fits r.opening r.bytes ≡ true) × (o ≡ r.opening)
    go true f e =
        let same : record { opening = o; bytes = bytes } ≡ r = cc in (
          ap Some (ap (λ (x : Record). x.bytes) same),
          sym (ap (λ (x : Record). fits x.opening x.bytes) same) ∙ f,
          ap (λ (x : Record). x.opening) same,
        )
    go false f e = absurd (never e)

module _ (line : List ℕ) (r : Record) (is : record_of line ≡ Some r) where
  -- The digits that stand before the line's end.
  read :
      (e : ℕ) × (e ≤ length line) × (bytes_of (drop 2 (take e line)) ≡ Some r.bytes) × (fits r.opening r.bytes ≡ true)
      × (opening_of (take e line) ≡ Some r.opening)
  unfolding record_of
  read =
      let c = of_ended (content line) r is in
      let t = content_takes line c.0 c.1 in
      let o = of_opened (opening_of c.0) c.0 r c.2 in
      let b = of_bytes o.0 (bytes_of (drop 2 c.0)) r o.2 in (
        t.0,
        t.2,
        sym (ap (λ (l : List ℕ). bytes_of (drop 2 l)) t.1) ∙ b.0,
        b.1,
        sym (ap opening_of t.1) ∙ o.1 ∙ ap Some b.2,
      )

  counted : (length r.bytes ≡ get_or r.bytes 0 0 + 1) × (r.opening.width + 1 ≤ get_or r.bytes 0 0)
  counted =
      let both = (and-eq-true_iff (eqb (length r.bytes) (get_or r.bytes 0 0 + 1)) (may r.opening.kind (r.opening.width + 1) (get_or r.bytes 0 0))).0 read.3 in
      (eqb-true (length r.bytes) (get_or r.bytes 0 0 + 1) both.0, may_least r.opening.kind (r.opening.width + 1) (get_or r.bytes 0 0) both.1)

  -- Opening, digits and end.
  digits_end : 2 * length r.bytes + 2 ≡ read.0
  digits_end =
      omega (
        arith,
        twice_as_long (drop 2 (take read.0 line)) r.bytes read.2,
        length-drop 2 (take read.0 line),
        length-take-le read.0 line read.1,
        counted,
      )

  alike : (i : ℕ) → 2 + i < read.0 → get_or (drop 2 line) i 0 ≡ get_or (drop 2 (take read.0 line)) i 0
  alike i inside = rw (get_or-drop 2 line i 0, get_or-drop 2 (take read.0 line) i 0, get_or-take read.0 line (2 + i) 0 inside)

  -- The line cut into pairs behind its opening has all of the record's,
  module _ {pairs : List (List ℕ)} (cut : Cut (drop 2 line) pairs) where
    enough : length r.bytes ≤ length pairs
    enough = omega (arith, digits_end, cut.many, length-drop 2 line, read.1)

    pub line_pairs : (i : ℕ) → i < length r.bytes → value EitherCase (get_or pairs i []) ≡ Some (get_or r.bytes i 0)
    line_pairs i inside =
        let among = pair_among (length (drop 2 line) / 2) (drop 2 line) i (omega arith) (omega (arith, enough, cut.many)) [] in
        rw (cut.front, among, alike (2 * i) (omega (arith, digits_end)), alike (2 * i + 1) (omega (arith, digits_end)))
        (pair_of (drop 2 (take read.0 line)) r.bytes read.2 i inside)

  few : (kind : Kind) → length (data_for kind (carried r)) ≤ get_or r.bytes 0 0 - (r.opening.width + 1)
  few Header = omega arith
  few Data = rw (length-take (get_or r.bytes 0 0 - (r.opening.width + 1)) (drop (r.opening.width + 1) r.bytes)) (omega arith)
  few Count = omega arith
  few Closing = omega arith

  pub two : 2 ≤ length line
  two = omega (arith, digits_end, read.1)

  module _ {pairs : List (List ℕ)} (cut : Cut (drop 2 line) pairs) where
    abbrev least : ℕ
    least = r.opening.width + 1

    abbrev part : ℕ → List (List ℕ)
    part n = take (least + n - least) (drop least pairs)

    -- There are pairs for all data of the line,
    pub room : least + length (data_of r) ≤ length pairs
    room = omega (arith, few r.opening.kind, counted, enough cut)

    pub data_count : length (part (length (data_of r))) ≡ length (data_of r)
    data_count = length-take (least + length (data_of r) - least) (drop least pairs) ∙ rw (length-drop least pairs) (omega (arith, room))

    -- and they make these.
    pub data_made : Make (part (length (data_of r))) (data_of r) 0
    data_made = go r.opening.kind
      where
        nothing : (i : ℕ) → i < length (part 0) → ⊥
        nothing i inside = omega (arith, length-take (least + 0 - least) (drop least pairs))

        go :
            (kind : Kind) (i : ℕ) → i < length (part (length (data_for kind (carried r)))) →
            value EitherCase (get_or (part (length (data_for kind (carried r)))) i []) ≡ Some (get_or (data_for kind (carried r)) (0 + i) 0)
        go Header i inside = absurd (nothing i inside)
        go Data i inside =
            let n = get_or r.bytes 0 0 - least in
            let l = length (carried r) in
            let few-data = few Data in
            let many : i < l = omega (arith, length-take (least + l - least) (drop least pairs)) in
            let first : 0 + i ≡ i = omega arith in
            rw (first, get_or-take n (drop least r.bytes) i 0 (omega arith), get_or-drop least r.bytes i 0)
            (part_makes pairs r.bytes (length r.bytes) (line_pairs cut) least (least + l) (omega (arith, counted)) i inside)
        go Count i inside = absurd (nothing i inside)
        go Closing i inside = absurd (nothing i inside)

  -- The opening and the count can be read from the line itself.
  pub opening_seen : opening_of line ≡ Some r.opening
  unfolding opening_of
  opening_seen = rw (take-take 2 read.0 line (omega (arith, digits_end))) at read.4

  pub opening_same : {o : Opening} → Some o ≡ opening_of line → o ≡ r.opening
  opening_same found = let e = found ∙ opening_seen in cc

  module _ {pairs : List (List ℕ)} (cut : Cut (drop 2 line) pairs) where
    pub some_pair : None ≡ slice_get pairs 0 → ⊥
    some_pair first = omega (arith, no_pair pairs first, counted, enough cut)

    pub count_seen : {p : List ℕ} (b : ℕ) → Some p ≡ slice_get pairs 0 → ByteOf p b → b ≡ get_or r.bytes 0 0
    count_seen b first here =
        here (get_or r.bytes 0 0) (rw (← (first_pair pairs first).1) (line_pairs cut 0 (omega (arith, counted))))

    module _ (count : ℕ) (seen : count ≡ get_or r.bytes 0 0) where
      pub count_enough : r.opening.width + 1 ≤ count
      count_enough = omega (arith, counted)

      pub pairs_enough : r.opening.width + 1 ≤ length pairs
      pairs_enough = omega (arith, counted, enough cut)

      pub address_read : {n : ℕ} → NumberOf (take (r.opening.width + 1 - 1) (drop 1 pairs)) n → n ≡ address r
      address_read {n} number =
          let long : length (take (r.opening.width + 1 - 1) (drop 1 pairs)) ≡ r.opening.width =
          number_length pairs r.opening.width (omega (arith, pairs_enough)) in
          rw long at
          (number r.bytes 1 (part_makes pairs r.bytes (length r.bytes) (line_pairs cut) 1 (r.opening.width + 1) (omega (arith, counted))))

      pub data_length : length_for r.opening.kind (count - (r.opening.width + 1)) ≡ length (data_of r)
      data_length =
          let least = r.opening.width + 1 in
          let all : length (carried r) ≡ count - least =
          rw (← seen) (length-take-le (count - least) (drop least r.bytes) (rw (length-drop least r.bytes) (omega (arith, counted)))) in
          rw (← all) (length_for_data r.opening.kind (carried r))
