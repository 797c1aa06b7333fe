-- Which lengths are refused, and what an accepted one is: document 01's five lengths, computed, and the bounds.
-- Assumes nothing.
use mathlib.Core.Path.{◌≡◌, refl, ◌∙◌}
use mathlib.Core.Bool.{Bool, true, false, ◌||◌, cond, not}
use mathlib.Core.List.{List, [], ◌∷◌, ◌++◌, map}
use Prim.Native.Nat.{ℕ, ◌%◌, ◌≤◌}
use lib.Dec.{eqb, ltb}
use borrow.Author.Tests.{ltb-false}
use Rattle.memory.specs.Lengths.{Test, first, refused_length, test}

-- "Length 1,022 is 1; length 0 and 1,020 are 2; 1,024 and 16,777,216 pass."
pub five_lengths : map refused_length (1022 ∷ 0 ∷ 1020 ∷ 1024 ∷ 16777216 ∷ []) ≡ 1 ∷ 2 ∷ 2 ∷ 0 ∷ 0 ∷ []
five_lengths = refl

-- What more tests pass, fewer pass.
pub none_before : (tests more : List Test) → first (tests ++ more) ≡ 0 → first tests ≡ 0
none_before [] more e = refl
none_before (t ∷ tests) more e = go t.given (none_before tests more) e
  where
    go :
        (given : Bool) → (first (tests ++ more) ≡ 0 → first tests ≡ 0) → cond given t.number (first (tests ++ more)) ≡ 0 →
        cond given t.number (first tests) ≡ 0
    go true rest e = e
    go false rest e = rest e

-- What tests refuse, more tests refuse for the same reason.
pub same_before : (tests more : List Test) → (first tests ≡ 0 → ⊥) → first (tests ++ more) ≡ first tests
same_before [] more refuses = absurd (refuses refl)
same_before (t ∷ tests) more refuses = go t.given (same_before tests more) refuses
  where
    go :
        (given : Bool) → ((first tests ≡ 0 → ⊥) → first (tests ++ more) ≡ first tests) →
        (cond given t.number (first tests) ≡ 0 → ⊥) →
        cond given t.number (first (tests ++ more)) ≡ cond given t.number (first tests)
    go true rest refuses = refl
    go false rest refuses = rest refuses

neither :
    (ragged short long : Bool) → first (test 1 ragged ∷ test 2 (short || long) ∷ []) ≡ 0 → (short ≡ false) × (long ≡ false)
neither true short long e = (cc, cc)
neither false true long e = (cc, cc)
neither false false true e = (cc, cc)
neither false false false e = (refl, refl)

pub accepted_size : (length : ℕ) → refused_length length ≡ 0 → (1024 ≤ length) × (length ≤ 16777216)
accepted_size length e =
    let within = neither (not (eqb (length % 4) 0)) (ltb length 1024) (ltb 16777216 length) e in
    (ltb-false length 1024 within.0, ltb-false 16777216 length within.1)

-- A length refused for another reason than 1 is refused for reason 2.
pub size_left : (length : ℕ) {k : ℕ} → k ≡ refused_length length → (k ≡ 0 → ⊥) → (k ≡ 1 → ⊥) → 2 ≡ refused_length length
size_left length e some other =
    go (not (eqb (length % 4) 0)) (ltb length 1024 || ltb 16777216 length) (λ none. some (e ∙ none)) (λ one. other (e ∙ one))
  where
    go :
        (ragged missized : Bool) → (first (test 1 ragged ∷ test 2 missized ∷ []) ≡ 0 → ⊥) →
        (first (test 1 ragged ∷ test 2 missized ∷ []) ≡ 1 → ⊥) → 2 ≡ first (test 1 ragged ∷ test 2 missized ∷ [])
    go true missized some other = absurd (other refl)
    go false true some other = refl
    go false false some other = absurd (some refl)
