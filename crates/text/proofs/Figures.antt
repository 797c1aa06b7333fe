-- How long a number's text is.
-- Assumes nothing.
use mathlib.Core.Path.{◌≡◌, refl, ◌∙◌}
use mathlib.Core.Bool.{Bool, true, false, cond}
use mathlib.Core.List.{List, [], ◌∷◌, ◌++◌}
use Prim.Native.Nat.{ℕ, zero, suc, ◌/◌, ◌%◌, ◌≤◌}
use native.Mathlib.Nat.{le_refl}
use native.Mathlib.Numerals.{add-one}
use native.Mathlib.Omega.{arith}
use lib.Dec.{ltb}
use lib.ListN.{length, length-append}
use Rattle.text.specs.Text.{decimal, digit, figure, hex_in}
use Rattle.text.specs.declared.digits.Case.{Case}

pub hex_length : (case : Case) (k n : ℕ) → length (hex_in case k n) ≡ k
unfolding hex_in
hex_length case zero n = refl
hex_length case (suc k) n =
    length-append (hex_in case k (n / 16)) (digit case (n % 16) ∷ []) ∙ rw (hex_length case k (n / 16)) (add-one k)

longer : (k : ℕ) (text : List ℕ) (last : ℕ) → length text ≤ k → length (text ++ (last ∷ [])) ≤ suc k
longer k text last h = rw (length-append text (last ∷ [])) (omega arith)

pub decimal_length : (k n : ℕ) → length (decimal k n) ≤ k
unfolding decimal
decimal_length zero n = le_refl 0
decimal_length (suc k) n = go (ltb n 10) (longer k (decimal k (n / 10)) (figure (n % 10)) (decimal_length k (n / 10)))
  where
    go : (t : Bool) → length (decimal k (n / 10) ++ (figure (n % 10) ∷ [])) ≤ suc k →
        length (cond t (figure n ∷ []) (decimal k (n / 10) ++ (figure (n % 10) ∷ []))) ≤ suc k
    go true h = omega arith
    go false h = h
