-- DIV1 steps with M = 0, one after the other from Q = 0, any number of them: what they are, and what they leave whatever the divisor.
-- Assumes nothing; no machine and no number of steps is named.
use mathlib.Core.Path.{◌≡◌}
use mathlib.Core.Bool.{Bool, true, false, cond}
use Prim.Native.Nat.{ℕ, ◌+◌, ◌*◌, ◌/◌, ◌%◌, ◌^◌, ◌≤◌, ◌<◌}
use native.Mathlib.Omega.{arith}
use lib.Dec.{eqb, leb, ltb}
use Rattle.numbers.specs.Numbers.{truth, low32}
use Rattle.divide.specs.Divide.{div1, flipped}

-- Steps d x c bits answers v q: x stood in Rn, with Q = 0, and d in Rm. After the steps c is 2 to their number, the bits that T brought
-- make the number bits, the answers that T took the number answers, and v and q are Rn and Q.
pub data Steps (d x : ℕ) : ℕ → ℕ → ℕ → ℕ → ℕ → Type 0 where
  none : Steps d x 1 0 0 x 0
  another :
      {c bits answers v q : ℕ} (b : ℕ) → b < 2 → Steps d x c bits answers v q →
      Steps d x (c + c) (bits + bits + b) (answers + answers + (div1 d v 0 q b).t) (div1 d v 0 q b).value (div1 d v 0 q b).q

flipped_bit : (a : Bool) (top : ℕ) → top < 2 → flipped a top < 2
flipped_bit true top bit = omega arith
flipped_bit false top bit = bit

either_long : (a : Bool) (x y : ℕ) → cond a (low32 x) (low32 y) < 2 ^ 32
either_long true x y = omega arith
either_long false x y = omega arith

-- What a step leaves is in range, whatever the divisor.
pub record InRange (c bits answers v q : ℕ) : Type 0 where
  pub bits_below : bits < c
  pub answers_below : answers < c
  pub long : v < 2 ^ 32
  pub bit : q < 2

truth_bit : (a : Bool) → truth a < 2
truth_bit true = omega arith
truth_bit false = omega arith

module _ (d v q b : ℕ) where
  pub div1_t_bit : (div1 d v 0 q b).t < 2
  div1_t_bit = truth_bit (eqb (div1 d v 0 q b).q 0)

  div1_long : (div1 d v 0 q b).value < 2 ^ 32
  div1_long = either_long (eqb q 0) _ _

  pub div1_q_bit : v < 2 ^ 32 → (div1 d v 0 q b).q < 2
  div1_q_bit small =
      let doubled = low32 (v * 2 + b) in
      flipped_bit (cond (eqb q 0) (ltb doubled d) (leb (2 ^ 32) (doubled + d))) (v / 2 ^ 31) (omega arith)

module _ {d x : ℕ} (small : x < 2 ^ 32) where
  pub in_range : {c bits answers v q : ℕ} → Steps d x c bits answers v q → InRange c bits answers v q
  in_range none = record { bits_below = omega arith; answers_below = omega arith; long = small; bit = omega arith }
  in_range (another {c} {bits} {answers} {v} {q} b bit s) =
      let before = in_range s in
      record {
        bits_below = omega (arith, before.bits_below);
        answers_below = omega (arith, before.answers_below, div1_t_bit d v q b);
        long = div1_long d v q b;
        bit = div1_q_bit d v q b before.long;
      }

-- The last answer is the complement of Q: the answers' parity tells Q.
pub parity :
    {d x c bits answers v q : ℕ} → Steps d x c bits answers v q → 2 ≤ c → answers % 2 ≡ truth (eqb q 0)
parity none some = absurd (omega arith)
parity {d} (another {c} {bits} {answers} {v} {q} b bit s) some =
    omega (arith, div1_t_bit d v q b)
