-- A number's text by its last digit.
-- Assumes nothing.
use mathlib.Core.Path.{◌≡◌}
use mathlib.Core.List.{[], ◌∷◌, ◌++◌}
use Prim.Native.Nat.{ℕ, zero, suc, ◌-◌, ◌/◌, ◌%◌, ◌<◌, ◌≤◌}
use native.Mathlib.Nat.{not-suc-le-zero}
use native.Mathlib.Numerals.{sub-one}
use borrow.Author.Tests.{le-ltb, lt-ltb}
use Rattle.text.specs.Text.{decimal, digit, figure, hex_in}
use Rattle.text.specs.declared.digits.Case.{Case}

pub hex_none : (case : Case) (k n : ℕ) → k ≡ 0 → hex_in case k n ≡ []
unfolding hex_in
hex_none case k n none = rw none

pub hex_last : (case : Case) (k n : ℕ) → 1 ≤ k → hex_in case k n ≡ hex_in case (k - 1) (n / 16) ++ (digit case (n % 16) ∷ [])
unfolding hex_in
hex_last case zero n some = absurd (not-suc-le-zero some)
hex_last case (suc k) n some = rw (sub-one (suc k))

pub decimal_none : (k n : ℕ) → k ≡ 0 → decimal k n ≡ []
unfolding decimal
decimal_none k n none = rw none

pub decimal_one : (k n : ℕ) → 1 ≤ k → n < 10 → decimal k n ≡ figure n ∷ []
unfolding decimal
decimal_one zero n some small = absurd (not-suc-le-zero some)
decimal_one (suc k) n some small = rw (lt-ltb n 10 small)

pub decimal_last : (k n : ℕ) → 1 ≤ k → 10 ≤ n → decimal k n ≡ decimal (k - 1) (n / 10) ++ (figure (n % 10) ∷ [])
unfolding decimal
decimal_last zero n some large = absurd (not-suc-le-zero some)
decimal_last (suc k) n some large = rw (le-ltb n 10 large, sub-one (suc k))
