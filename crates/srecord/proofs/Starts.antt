-- Laws of openings: a line's first two bytes among the eight.
-- Assumes nothing.
use Rattle.std.proofs.Common.{◌≡◌, ℕ, ◌<◌, ◌≤◌, Bool, true, false, cond, ◌&&◌, eqb, ltb, leb, List, [], ◌∷◌, length, get_or, take, refl, sym, ap, ◌∙◌, not-suc-le-zero, arith, ltb-false, ltb-true, leb-true, Option, None, Some}
use mathlib.Core.Bool.{and-eq-true_iff, and-false}
use Rattle.std.specs.Array.{IsFirstChunk}
use Rattle.srecord.specs.Records.{among, opening_of, openings, same}
use Rattle.srecord.specs.declared.openings.Kind.{Kind}
use Rattle.srecord.specs.declared.openings.Opening.{Opening}
use Rattle.srecord.proofs.Pairs.{never}

pub too_short : (line : List ℕ) → length line < 2 → None ≡ opening_of line
unfolding opening_of
too_short [] short = refl
too_short (a ∷ []) short = rw (and-false (eqb a 83))
too_short (a ∷ b ∷ line) short = absurd (omega arith)

first_two : (line : List ℕ) → 2 ≤ length line → take 2 line ≡ get_or line 0 0 ∷ get_or line 1 0 ∷ []
first_two [] two = absurd (not-suc-le-zero two)
first_two (a ∷ []) two = absurd (omega arith)
first_two (a ∷ b ∷ line) two = refl

module _ {line start : List ℕ} (first : IsFirstChunk line start 2) where
  by_two : start ≡ get_or start 0 0 ∷ get_or start 1 0 ∷ []
  by_two = rw (first.same, first_two line first.enough)

  -- A line that opens so,
  pub found :
      (a b : ℕ) {kind : Kind} {width : ℕ} → get_or start 0 0 ≡ a → get_or start 1 0 ≡ b →
      among openings (a ∷ b ∷ []) ≡ Some (record { start = a ∷ b ∷ []; kind = kind; width = width }) →
      Some (record { start = start; kind = kind; width = width }) ≡ opening_of line
  unfolding opening_of
  found a b {kind} {width} ea eb is =
      let two : start ≡ a ∷ b ∷ [] = rw (ea, eb) at by_two in
      rw (← first.same, two) (sym is)

  -- and one that does not open as any of the eight.
  pub another : among openings (get_or start 0 0 ∷ get_or start 1 0 ∷ []) ≡ None → None ≡ opening_of line
  unfolding opening_of
  another unlike = sym (ap (among openings) (sym first.same ∙ by_two) ∙ unlike)

picks : (P : Option Opening → Type 0) (b : Bool) {x y : Option Opening} → P x → P y → P (cond b x y)
picks P true p q = p
picks P false p q = q

-- No address has more than four bytes.
abbrev Narrow : Option Opening → Type 0
Narrow None = Unit {0}
Narrow (Some o) = o.width ≤ 4

abbrev all_narrow : List Opening → Bool
all_narrow [] = true
all_narrow (o ∷ rest) = leb o.width 4 && all_narrow rest

among_narrow : (os : List Opening) → all_narrow os ≡ true → (start : List ℕ) → Narrow (among os start)
among_narrow [] e start = tt
among_narrow (o ∷ rest) e start =
    let both = (and-eq-true_iff (leb o.width 4) (all_narrow rest)).0 e in
    picks Narrow (same start o.start) {x = Some o} (leb-true o.width 4 both.0) (among_narrow rest both.1 start)

-- What is known of a line whose opening was found.
module _ (line : List ℕ) {o : Opening} (found : Some o ≡ opening_of line) where
  pub narrow : o.width ≤ 4
  unfolding opening_of
  narrow = rw (sym found) at (among_narrow openings refl (take 2 line))

  pub long_enough : 2 ≤ length line
  long_enough = go (ltb (length line) 2) refl
    where
      go : (t : Bool) → ltb (length line) 2 ≡ t → 2 ≤ length line
      go true short = absurd (never (too_short line (ltb-true (length line) 2 short) ∙ sym found))
      go false long = ltb-false (length line) 2 long
