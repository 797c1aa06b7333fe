-- DIV1 steps where the number is below the divisor: the answers make the quotient, and the remainder stands in Rn and Q. By induction.
-- Assumes nothing; no machine and no number of steps is named.
use mathlib.Core.Path.{◌≡◌, refl}
use Prim.Native.Nat.{ℕ, ◌+◌, ◌*◌, ◌-◌, ◌^◌, ◌<◌}
use native.Mathlib.Nat.{mul-add, add-mul}
use native.Mathlib.Omega.{arith}
use Rattle.divide.specs.Divide.{div1}
use Rattle.division.proofs.Div1.{Stands, plain, Answers, fits, fits_not, one_div1}
use Rattle.division.proofs.Steps.{Steps, none, another}

-- x with the bits behind it is the answers times d and a rest, which stands in Rn and Q.
pub record Remainder (d x c bits answers v q : ℕ) : Type 0 where
  pub rest : ℕ
  pub below : rest < d
  pub divides : x * c + bits ≡ answers * d + rest
  pub stands : Stands d rest v q

module _ {d x : ℕ} (small : d < 2 ^ 32) (less-than : x < d) where
  twice :
      (c bits answers rest b : ℕ) → x * c + bits ≡ answers * d + rest →
      x * (c + c) + (bits + bits + b) ≡ (answers + answers) * d + (rest + rest + b)
  twice c bits answers rest b e = rw (mul-add x c c, add-mul answers answers d) (omega arith)

  next :
      (c bits answers v q b : ℕ) → b < 2 → (before : Remainder d x c bits answers v q) →
      Answers d (before.rest + before.rest + b) (div1 d v 0 q b) →
      Remainder d x (c + c) (bits + bits + b) (answers + answers + (div1 d v 0 q b).t) (div1 d v 0 q b).value (div1 d v 0 q b).q
  next c bits answers v q b bit before (fits larger one_answer stands) =
      let double = twice c bits answers before.rest b before.divides in
      let more = add-mul (answers + answers) 1 d in
      record {
        rest = before.rest + before.rest + b - d;
        below = omega (arith, before.below);
        divides = rw one_answer (omega arith);
        stands = stands;
      }
  next c bits answers v q b bit before (fits_not smaller zero-answer stands) =
      let double = twice c bits answers before.rest b before.divides in
      let more = add-mul (answers + answers) 0 d in
      record { rest = before.rest + before.rest + b; below = smaller; divides = rw zero-answer (omega arith); stands = stands }

  pub remainder : {c bits answers v q : ℕ} → Steps d x c bits answers v q → Remainder d x c bits answers v q
  remainder none = record { rest = x; below = less-than; divides = omega arith; stands = plain refl refl }
  remainder (another {c} {bits} {answers} {v} {q} b bit s) =
      let before = remainder s in
      next c bits answers v q b bit before (one_div1 d before.rest b small before.below bit v q before.stands)
