-- One DIV1 with M = 0: from a remainder in Rn and Q, and the next bit in T, to the next remainder in Rn and Q, and an answer in T.
-- Assumes nothing.
use mathlib.Core.Path.{◌≡◌, refl}
use mathlib.Core.Bool.{Bool, true, false}
use Prim.Native.Nat.{ℕ, ◌+◌, ◌*◌, ◌-◌, ◌/◌, ◌%◌, ◌^◌, ◌≤◌, ◌<◌}
use native.Mathlib.Omega.{arith}
use borrow.Author.Tests.{ltb-true, ltb-false, lt-ltb, le-leb, lt-leb}
use lib.Dec.{eqb, ltb, leb}
use Rattle.numbers.specs.Numbers.{truth}
use Rattle.divide.specs.declared.Divided.{Divided}
use Rattle.divide.specs.Divide.{div1, flipped}

-- How a remainder r of a division by d stands in a register's value v and in Q: as it is, or less the divisor modulo 2^32.
pub data Stands (d r v q : ℕ) : Type 0 where
  plain : v ≡ r → q ≡ 0 → Stands d r v q
  less : v + d ≡ r + 2 ^ 32 → q ≡ 1 → Stands d r v q

-- n is the old remainder doubled, with the next bit: the divisor goes into it or not.
pub data Answers (d n : ℕ) (x : Divided) : Type 0 where
  fits : d ≤ n → x.t ≡ 1 → Stands d (n - d) x.value x.q → Answers d n x
  fits_not : n < d → x.t ≡ 0 → Stands d n x.value x.q → Answers d n x

-- What DIV1 leaves with M = 0: Rn and Q, and T that tells whether Q is 0.
abbrev pub leaves : ℕ → ℕ → Divided
leaves v q = record { value = v; q = q; t = truth (eqb q 0) }

-- DIV1 from the doubled value e, the top bit that left, and the borrow or carry.
subtracting :
    (d v b e top : ℕ) (borrow : Bool) → (v * 2 + b) % 2 ^ 32 ≡ e → v / 2 ^ 31 ≡ top → ltb e d ≡ borrow →
    div1 d v 0 0 b ≡ leaves ((e + 2 ^ 32 - d) % 2 ^ 32) (flipped borrow top)
subtracting d v b e top borrow doubles top_bit borrows = rw (doubles, top_bit, borrows)

adding :
    (d v b e top : ℕ) (carry : Bool) → (v * 2 + b) % 2 ^ 32 ≡ e → v / 2 ^ 31 ≡ top → leb (2 ^ 32) (e + d) ≡ carry →
    div1 d v 0 1 b ≡ leaves ((e + d) % 2 ^ 32) (flipped carry top)
adding d v b e top carry doubles top_bit carries = rw (doubles, top_bit, carries)

module _ (d r b : ℕ) (small : d < 2 ^ 32) (below : r < d) (bit : b < 2) where
  from_plain : Answers d (r + r + b) (div1 d r 0 0 b)
  from_plain = top (ltb r (2 ^ 31)) refl
    where
      compare : (t : Bool) → r < 2 ^ 31 → ltb (r + r + b) d ≡ t → Answers d (r + r + b) (div1 d r 0 0 b)
      compare true low e =
          let smaller : r + r + b < d = ltb-true (r + r + b) d e in
          rw (subtracting d r b (r + r + b) 0 true (omega arith) (omega arith) e)
          (fits_not smaller refl (less (omega arith) refl))
      compare false low e =
          let larger : d ≤ r + r + b = ltb-false (r + r + b) d e in
          rw (subtracting d r b (r + r + b) 0 false (omega arith) (omega arith) e)
          (fits larger refl (plain (omega arith) refl))

      top : (t : Bool) → ltb r (2 ^ 31) ≡ t → Answers d (r + r + b) (div1 d r 0 0 b)
      top true e = compare (ltb (r + r + b) d) (ltb-true r (2 ^ 31) e) refl
      top false e =
          let high : 2 ^ 31 ≤ r = ltb-false r (2 ^ 31) e in
          let borrows : ltb (r + r + b - 2 ^ 32) d ≡ true = lt-ltb (r + r + b - 2 ^ 32) d (omega arith) in
          rw (subtracting d r b (r + r + b - 2 ^ 32) 1 true (omega arith) (omega arith) borrows)
          (fits (omega arith) refl (plain (omega arith) refl))

  from_less : (v : ℕ) → v + d ≡ r + 2 ^ 32 → Answers d (r + r + b) (div1 d v 0 1 b)
  from_less v stands = top (ltb v (2 ^ 31)) refl
    where
      compare : (t : Bool) → 2 ^ 31 ≤ v → ltb (r + r + b) d ≡ t → Answers d (r + r + b) (div1 d v 0 1 b)
      compare true high e =
          let smaller : r + r + b < d = ltb-true (r + r + b) d e in
          let carries : leb (2 ^ 32) (v + v + b - 2 ^ 32 + d) ≡ false = lt-leb (2 ^ 32) (v + v + b - 2 ^ 32 + d) (omega arith) in
          rw (adding d v b (v + v + b - 2 ^ 32) 1 false (omega arith) (omega arith) carries)
          (fits_not smaller refl (less (omega arith) refl))
      compare false high e =
          let larger : d ≤ r + r + b = ltb-false (r + r + b) d e in
          let carries : leb (2 ^ 32) (v + v + b - 2 ^ 32 + d) ≡ true = le-leb (2 ^ 32) (v + v + b - 2 ^ 32 + d) (omega arith) in
          rw (adding d v b (v + v + b - 2 ^ 32) 1 true (omega arith) (omega arith) carries)
          (fits larger refl (plain (omega arith) refl))

      top : (t : Bool) → ltb v (2 ^ 31) ≡ t → Answers d (r + r + b) (div1 d v 0 1 b)
      top false e = compare (ltb (r + r + b) d) (ltb-false v (2 ^ 31) e) refl
      top true e =
          let low : v < 2 ^ 31 = ltb-true v (2 ^ 31) e in
          let carries : leb (2 ^ 32) (v + v + b + d) ≡ true = le-leb (2 ^ 32) (v + v + b + d) (omega arith) in
          rw (adding d v b (v + v + b) 0 true (omega arith) (omega arith) carries)
          (fits_not (omega arith) refl (less (omega arith) refl))

  pub one_div1 : (v q : ℕ) → Stands d r v q → Answers d (r + r + b) (div1 d v 0 q b)
  one_div1 v q (plain same clear) = rw (same, clear) from_plain
  one_div1 v q (less same set) = rw set (from_less v same)
