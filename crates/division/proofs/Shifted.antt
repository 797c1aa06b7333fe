-- DIV1 steps where the divisor is 0: each only shifts, and the answers make the complement of what is shifted out. By induction.
-- Assumes nothing; no machine and no number of steps is named.
use mathlib.Core.Path.{◌≡◌, refl, sym, ◌∙◌, ap, subst}
use mathlib.Core.Bool.{Bool, true, false, cond}
use Prim.Native.Nat.{ℕ, ◌+◌, ◌*◌, ◌-◌, ◌/◌, ◌%◌, ◌^◌, ◌≤◌, ◌<◌}
use native.Mathlib.Nat.{mul-add, add-mul, mul_comm, mul-le-mul_right}
use native.Mathlib.Omega.{arith}
use borrow.Author.Tests.{ltb-true, ltb-false, le-ltb, lt-leb}
use lib.Dec.{eqb, leb, ltb}
use Rattle.numbers.specs.Numbers.{truth, low32}
use Rattle.divide.specs.declared.Divided.{Divided}
use Rattle.divide.specs.Divide.{div1, flipped}
use Rattle.division.proofs.Div1.{leaves}
use Rattle.division.proofs.Steps.{Steps, none, another, in_range}

-- Nothing is borrowed from subtracting 0, and nothing carried from adding it.
only_shifted :
    (subtract : Bool) (e top : ℕ) → e < 2 ^ 32 →
    leaves (cond subtract (low32 (e + 2 ^ 32 - 0)) (low32 (e + 0))) (flipped (cond subtract (ltb e 0) (leb (2 ^ 32) (e + 0))) top) ≡ leaves e top
only_shifted true e top small =
    let same : (e + 2 ^ 32 - 0) % 2 ^ 32 ≡ e = omega arith in
    rw (same, le-ltb e 0 (omega arith))
only_shifted false e top small =
    let same : (e + 0) % 2 ^ 32 ≡ e = omega arith in
    rw (same, lt-leb (2 ^ 32) (e + 0) (omega arith))

only_shifts : (v q b : ℕ) → div1 0 v 0 q b ≡ leaves (low32 (v * 2 + b)) (v / 2 ^ 31)
only_shifts v q b = only_shifted (eqb q 0) (low32 (v * 2 + b)) (v / 2 ^ 31) (omega arith)

-- w is 2 to the number of steps still possible with 32 bits. x has given out its upper bits, the last of them into Q, and the answers are
-- their complement; what stays of x is in Rn, with the bits behind it.
pub record Shifted (x c w bits answers v q : ℕ) : Type 0 where
  pub out : ℕ
  pub stay : ℕ
  pub parts : out * w + stay ≡ x
  pub below : stay < w
  pub value : v ≡ stay * c + bits
  pub complement : answers + out + 1 ≡ c
  pub last : q ≡ out % 2

module _ {x : ℕ} (small : x < 2 ^ 32) where
  shift :
      (c w bits answers v q b : ℕ) → b < 2 → bits < c → (c + c) * w ≡ 2 ^ 32 → Shifted x c (w + w) bits answers v q →
      Shifted x (c + c) w (bits + bits + b) (answers + answers + truth (eqb (v / 2 ^ 31) 0)) (low32 (v * 2 + b)) (v / 2 ^ 31)
  shift c w bits answers v q b bit lower full before = go (ltb before.stay w) refl
    where
      products : (s : ℕ) → s < w → (s * c + c ≤ w * c) × (w * c ≡ 2 ^ 31)
      products s below =
          (omega (arith, mul-le-mul_right {m = s + 1} {n = w} c (omega arith), add-mul s 1 c), omega (arith, mul_comm w c, add-mul c c w))

      go :
          (t : Bool) → ltb before.stay w ≡ t →
          Shifted x (c + c) w (bits + bits + b) (answers + answers + truth (eqb (v / 2 ^ 31) 0)) (low32 (v * 2 + b)) (v / 2 ^ 31)
      go true e =
          let stays : before.stay < w = ltb-true before.stay w e in
          let room = products before.stay stays in
          let top : v / 2 ^ 31 ≡ 0 = omega (arith, before.value) in
          record {
            out = before.out + before.out;
            stay = before.stay;
            parts = omega (arith, before.parts, mul-add before.out w w, add-mul before.out before.out w);
            below = stays;
            value = omega (arith, before.value, mul-add before.stay c c);
            complement = rw top (omega (arith, before.complement));
            last = rw top (omega arith);
          }
      go false e =
          let leaves : w ≤ before.stay = ltb-false before.stay w e in
          let s : ℕ = before.stay - w in
          let room = products s (omega (arith, before.below)) in
          let sum : before.stay ≡ s + w = omega arith in
          let value : v ≡ s * c + w * c + bits = before.value ∙ ap (λ y. y * c + bits) sum ∙ ap (λ y. y + bits) (add-mul s w c) in
          let top : v / 2 ^ 31 ≡ 1 = omega arith in
          let more = add-mul (before.out + before.out) 1 w in
          record {
            out = before.out + before.out + 1;
            stay = s;
            parts = omega (arith, before.parts, mul-add before.out w w, add-mul before.out before.out w, more);
            below = omega (arith, before.below);
            value = omega (arith, mul-add s c c);
            complement = rw top (omega (arith, before.complement));
            last = rw top (omega arith);
          }

  pub shifted :
      {c bits answers v q : ℕ} → Steps 0 x c bits answers v q → (w : ℕ) → c * w ≡ 2 ^ 32 → Shifted x c w bits answers v q
  shifted none w full =
      record {
        out = 0;
        stay = x;
        parts = omega arith;
        below = omega arith;
        value = omega arith;
        complement = omega arith;
        last = refl;
      }
  shifted (another {c} {bits} {answers} {v} {q} b bit s) w full =
      subst
      (λ (r : Divided). Shifted x (c + c) w (bits + bits + b) (answers + answers + r.t) r.value r.q)
      (sym (only_shifts v q b))
      (shift c w bits answers v q b bit (in_range small s).bits_below full
      (shifted s (w + w) (mul-add c w w ∙ sym (add-mul c c w) ∙ full)))
