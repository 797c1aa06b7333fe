-- Laws over any list of rows: what a test that passes at each row says of the row that a word finds.
-- Assumes nothing.
use mathlib.Core.Path.{◌≡◌, refl, sym, ◌∙◌, ap, subst}
use mathlib.Core.Bool.{Bool, true, false, ◌&&◌, not, cond, false≢true}
use mathlib.Core.List.{List, [], ◌∷◌, Memᴰ}
use Prim.Native.Nat.{ℕ, suc, ◌≤◌}
use native.Mathlib.Omega.{arith}
use lib.Dec.{T}
use Rattle.decoder.specs.Pattern.{Nibbles}
use Rattle.decoder.specs.Code.{among, none_matches, row_matches, row_means}
use Rattle.decoder.specs.Table.{Row}
use Rattle.decoder.specs.declared.meaning.Meaning.{Meaning}
use Rattle.decoder.specs.declared.meaning.Meaning.TheVariants.{Undefined}
use Rattle.decoder.proofs.Conjunction.{left, right}

abbrev pub every : (Row → Bool) → List Row → Bool
every f [] = true
every f (r ∷ rest) = f r && every f rest

-- Each row is apart from every later one, by the test f.
abbrev pub all_apart : (Row → Row → Bool) → List Row → Bool
all_apart f [] = true
all_apart f (r ∷ rest) = every (f r) rest && all_apart f rest

-- How many of some rows match a word.
abbrev counted : Bool → ℕ → ℕ
counted true k = suc k
counted false k = k

abbrev pub how_many : List Row → Nibbles → ℕ
how_many [] w = 0
how_many (r ∷ rest) w = counted (row_matches w r) (how_many rest w)

at : (f : Row → Bool) (rows : List Row) {q : Row} → T (every f rows) → Memᴰ q rows → T (f q)
at f [] t h = elim h [ ]
at f (r ∷ rest) t (Memᴰ.head e) = subst (λ z. T (f z)) (sym e) (left (f r) _ t)
at f (r ∷ rest) t (Memᴰ.tail h) = at f rest (right (f r) _ t) h

chosen : (a c : Meaning) (b : Bool) → T b → cond b a c ≡ a
chosen a c true t = refl
chosen a c false t = absurd t

either_way : (P : Meaning → Type 0) {a c : Meaning} (b : Bool) → (T b → P a) → (T (not b) → P c) → P (cond b a c)
either_way P true x y = x tt
either_way P false x y = y tt

paired : (P : Meaning → Bool → Type 0) {a c : Meaning} {k : Bool} (b : Bool) → P a false → P c k → P (cond b a c) (not b && k)
paired P true x y = x
paired P false x y = y

module _ (w : Nibbles) where
  -- Where a test that rules a row out passes at each row, no row matches.
  pub none_match :
      (f : Row → Bool) → ((r : Row) → T (f r) → row_matches w r ≡ false) → (rows : List Row) → T (every f rows) → how_many rows w ≡ 0
  none_match f out [] t = refl
  none_match f out (r ∷ rest) t =
      rw (out r (left (f r) (every f rest) t)) (none_match f out rest (right (f r) (every f rest) t))

  -- A test that passes at what each row means, and at Undefined, passes at what the word means.
  pub means_all :
      (f : Meaning → Bool) → T (f Undefined) → (rows : List Row) → T (every (λ r. f (row_means w r)) rows) → T (f (among rows w))
  unfolding among
  means_all f u [] t = u
  means_all f u (r ∷ rest) t =
      either_way (λ x. T (f x)) (row_matches w r) (λ _. left (f (row_means w r)) _ t)
      (λ _. means_all f u rest (right (f (row_means w r)) _ t))

  -- A word that means Undefined matches none of the rows, where no row means Undefined, and the other way round.
  pub undefined_none :
      (f : Meaning → Bool) → (T (f Undefined) → ⊥) → (rows : List Row) → T (every (λ r. f (row_means w r)) rows) →
      among rows w ≡ Undefined → none_matches rows w ≡ true
  unfolding among
  undefined_none f u [] t e = refl
  undefined_none f u (r ∷ rest) t e =
      paired (λ x none. x ≡ Undefined → none ≡ true) (row_matches w r)
      (λ d. absurd (u (subst (λ x. T (f x)) d (left (f (row_means w r)) _ t))))
      (undefined_none f u rest (right (f (row_means w r)) _ t)) e

  pub none_undefined : (rows : List Row) → none_matches rows w ≡ true → among rows w ≡ Undefined
  unfolding among
  none_undefined [] e = refl
  none_undefined (r ∷ rest) e =
      paired (λ x none. none ≡ true → x ≡ Undefined) (row_matches w r) (λ d. absurd (false≢true d)) (none_undefined rest) e

  -- Rows of which each two are apart: at most one matches, and whichever does gives the meaning.
  module _ (f : Row → Row → Bool) (out : (r q : Row) → T (f r q) → T (row_matches w r) → row_matches w q ≡ false) where
    pub at_most_one : (rows : List Row) → T (all_apart f rows) → how_many rows w ≤ 1
    at_most_one [] t = omega arith
    at_most_one (r ∷ rest) t = go (row_matches w r) refl (at_most_one rest (right (every (f r) rest) _ t))
      where
        go : (b : Bool) → row_matches w r ≡ b → how_many rest w ≤ 1 → counted b (how_many rest w) ≤ 1
        go true e h =
            let none : how_many rest w ≡ 0 = none_match (f r) (λ q d. out r q d (rw e tt)) rest (left (every (f r) rest) _ t) in
            omega arith
        go false e h = h

    pub whichever :
        (rows : List Row) → T (all_apart f rows) → (q : Row) → Memᴰ q rows → T (row_matches w q) → among rows w ≡ row_means w q
    unfolding among
    whichever [] t q h m = elim h [ ]
    whichever (r ∷ rest) t q (Memᴰ.head e) m =
        chosen _ _ (row_matches w r) (subst (λ z. T (row_matches w z)) e m) ∙ ap (row_means w) (sym e)
    whichever (r ∷ rest) t q (Memᴰ.tail h) m =
        go (row_matches w r) (λ y. out r q (at (f r) rest (left (every (f r) rest) _ t) h) y)
        (whichever rest (right (every (f r) rest) _ t) q h m)
      where
        go :
            (b : Bool) → (T b → row_matches w q ≡ false) → among rest w ≡ row_means w q →
            cond b (row_means w r) (among rest w) ≡ row_means w q
        go true unlike e = absurd (subst (λ z. T z) (unlike tt) m)
        go false unlike e = e
