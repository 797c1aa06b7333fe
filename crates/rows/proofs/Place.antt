-- The row number of what a word means is the place of the row that matches the word: a test, computed over the rows, and its law.
-- Assumes nothing.
use mathlib.Core.Path.{◌≡◌, refl, ap}
use mathlib.Core.Bool.{Bool, true, false, ◌&&◌, cond}
use mathlib.Core.List.{List, [], ◌∷◌}
use Prim.Native.Nat.{ℕ, suc}
use lib.Dec.{T, eqb, eqb→eq}
use Rattle.std.specs.Prelude.{Option, None, Some}
use Rattle.decoder.specs.Pattern.{Nibbles, nibbles}
use Rattle.decoder.specs.Code.{among, meaning, row_matches, row_means}
use Rattle.decoder.specs.Table.{Row, table}
use Rattle.decoder.specs.declared.meaning.Meaning.{Meaning}
use Rattle.decoder.proofs.Conjunction.{left, right}
use Rattle.rows.specs.RowNumber.{place_from, row_number}

abbrev is_place : Option ℕ → ℕ → Bool
is_place None k = false
is_place (Some n) k = eqb n k

place : (x : Option ℕ) (k : ℕ) → T (is_place x k) → x ≡ Some k
place None k t = absurd t
place (Some n) k t = ap Some (eqb→eq n k t)

module _ (w : Nibbles) where
  abbrev numbered : ℕ → List Row → Bool
  numbered k [] = true
  numbered k (r ∷ rest) = is_place (row_number (row_means w r)) k && numbered (suc k) rest

  one_or_other :
      (x y : Meaning) (k l : Option ℕ) (b : Bool) → row_number x ≡ k → row_number y ≡ l → row_number (cond b x y) ≡ cond b k l
  one_or_other x y k l true e d = e
  one_or_other x y k l false e d = d

  number_is_place : (k : ℕ) (rows : List Row) → T (numbered k rows) → row_number (among rows w) ≡ place_from k rows w
  unfolding among
  number_is_place k [] t = refl
  number_is_place k (r ∷ rest) t =
      one_or_other (row_means w r) (among rest w) (Some k) (place_from (suc k) rest w) (row_matches w r)
      (place (row_number (row_means w r)) k (left (is_place (row_number (row_means w r)) k) _ t))
      (number_is_place (suc k) rest (right (is_place (row_number (row_means w r)) k) _ t))

pub row_of_word : (w : ℕ) → row_number (meaning w) ≡ place_from 0 table (nibbles w)
unfolding meaning table
row_of_word w = number_is_place (nibbles w) 0 table tt
