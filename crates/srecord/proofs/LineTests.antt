-- A line's tests: by itself and among the earlier lines, and what a line that passes writes.
-- Assumes nothing.
use Rattle.std.proofs.Common.{◌≡◌, ℕ, ◌+◌, ◌%◌, ◌<◌, ◌≤◌, Bool, true, false, cond, not, ◌&&◌, eqb, ltb, List, [], ◌∷◌, length, refl, arith, ltb-false, ne_eqb, Some}
use mathlib.Core.Bool.{and-eq-true_iff}
use borrow.Author.Tests.{eqb-false}
use Rattle.memory.specs.Lengths.{first, test}
use Rattle.srecord.specs.Load.{closed, data_lines, end_of, kind_of, record_tests, sum, writes, written_twice}
use Rattle.srecord.specs.Promises.{single_tests, summary}
use Rattle.srecord.specs.Records.{Record, address, carried, data_for, data_of, is_count}
use Rattle.srecord.specs.declared.openings.Kind.{Kind}
use Rattle.srecord.specs.declared.openings.Kind.TheVariants.{Header, Data, Count, Closing}
use Rattle.srecord.proofs.Addresses.{inside}

-- 13 among a line's tests, where it and 14 are not both given: it decides where no other test does.
among :
    (a b c d e : Bool) → (d ≡ true → e ≡ true → ⊥) →
    let others = first (test 10 a ∷ test 11 b ∷ test 12 c ∷ test 14 e ∷ []) in
    first (test 10 a ∷ test 11 b ∷ test 12 c ∷ test 13 d ∷ test 14 e ∷ []) ≡ cond (eqb others 0) (cond d 13 0) others
among true b c d e h = refl
among false true c d e h = refl
among false false true d e h = refl
among false false false false true h = refl
among false false false false false h = refl
among false false false true false h = refl
among false false false true true h = absurd (h refl refl)

-- What passes them all passes 12 and 13; what passes them by itself passes 12.
both_passed :
    (a b c d e : Bool) → first (test 10 a ∷ test 11 b ∷ test 12 c ∷ test 13 d ∷ test 14 e ∷ []) ≡ 0 → (c ≡ false) × (d ≡ false)
both_passed true b c d e h = absurd (eqb-false 10 0 refl h)
both_passed false true c d e h = absurd (eqb-false 11 0 refl h)
both_passed false false true d e h = absurd (eqb-false 12 0 refl h)
both_passed false false false true e h = absurd (eqb-false 13 0 refl h)
both_passed false false false false e h = (refl, refl)

one_passed : (a b c e : Bool) → first (test 10 a ∷ test 11 b ∷ test 12 c ∷ test 14 e ∷ []) ≡ 0 → c ≡ false
one_passed true b c e h = absurd (eqb-false 10 0 refl h)
one_passed false true c e h = absurd (eqb-false 11 0 refl h)
one_passed false false true e h = absurd (eqb-false 12 0 refl h)
one_passed false false false e h = refl

-- An S5 line writes nothing.
count_writes_nothing : (r : Record) (a : ℕ) → is_count (kind_of r) ≡ true → writes (Some r) a ≡ true → ⊥
count_writes_nothing r a h w = go (kind_of r) (carried r) h (inside r a w)
  where
    go :
        (kind : Kind) (bytes : List ℕ) → is_count kind ≡ true →
        (address r ≤ a) × (a < address r + length (data_for kind bytes)) → ⊥
    go Header bytes h w = omega arith
    go Data bytes h w = let z : ◌≡◌ {A = ℕ} 0 1 = cc in omega arith
    go Count bytes h w = omega arith
    go Closing bytes h w = omega arith

module _ (size : ℕ) (r : Record) where
  -- The refusal of a line by itself, and its tests 11, 12 and 14.
  abbrev pub alone : Bool → ℕ → ℕ
  alone shut count = first (single_tests size shut count (summary r))

  abbrev bad : Bool
  bad = not (eqb (sum r.bytes % 256) 0xff)

  abbrev outside : Bool
  outside = not (eqb (length (data_of r)) 0) && ltb size (end_of r)

  abbrev wrong : ℕ → Bool
  wrong count = is_count (kind_of r) && not (eqb (address r) count)

  -- A line that passes 12 writes below the memory's end.
  writes_below : (a : ℕ) → outside ≡ false → writes (Some r) a ≡ true → a < size
  writes_below a passed h =
      let w = inside r a h in
      let carries : length (data_of r) ≡ 0 → ⊥ = λ empty. omega arith in
      let fits : end_of r ≤ size = ltb-false _ _ (rw (ne_eqb (length (data_of r)) 0 carries) at passed) in
      omega arith

  pub below : (shut : Bool) (count a : ℕ) → alone shut count ≡ 0 → writes (Some r) a ≡ true → a < size
  unfolding single_tests
  below shut count a e = writes_below a (one_passed shut bad outside (wrong count) e)

  pub accepted_line :
      (earlier : List Record) → first (record_tests size earlier r) ≡ 0 →
      ((a : ℕ) → writes (Some r) a ≡ true → a < size) × (written_twice r earlier ≡ false)
  unfolding record_tests
  accepted_line earlier e =
      let both = both_passed (closed earlier) bad outside (written_twice r earlier) (wrong (data_lines earlier)) e in
      (λ a. writes_below a both.0, both.1)

  -- A line's refusal among the earlier ones, from that by itself.
  pub refusal :
      (earlier : List Record) → (written_twice r earlier ≡ true → (a : ℕ) × (writes (Some r) a ≡ true)) →
      let number = alone (closed earlier) (data_lines earlier) in
      first (record_tests size earlier r) ≡ cond (eqb number 0) (cond (written_twice r earlier) 13 0) number
  unfolding record_tests single_tests
  refusal earlier writing =
      let count = data_lines earlier in
      among (closed earlier) bad outside (written_twice r earlier) (wrong count)
      (λ again fails.
      let w = writing again in
      let counts = (and-eq-true_iff (is_count (kind_of r)) (not (eqb (address r) count))).0 fails in
      count_writes_nothing r w.0 counts.0 w.1)
