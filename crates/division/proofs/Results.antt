-- What DIV1 steps have made of a number once 32 bits are taken, in both cases of the divisor.
-- Assumes nothing; no machine is named.
use mathlib.Core.Path.{◌≡◌, refl, sym, ◌∙◌, ap, subst}
use Prim.Native.Nat.{◌%◌, ◌^◌, ◌<◌}
use native.Mathlib.Omega.{arith}
use lib.Arith.{digits_div, digits_mod}
use lib.Dec.{eqb}
use Rattle.numbers.specs.Numbers.{truth}
use Rattle.division.specs.Division.{Values, Divided, Complemented}
use Rattle.division.proofs.Div1.{Stands, plain, less}
use Rattle.division.proofs.Steps.{Steps, parity}
use Rattle.division.proofs.Remainder.{Remainder, remainder}
use Rattle.division.proofs.Shifted.{shifted}

module _ (before after : Values) where
  abbrev Taken : Type 0
  Taken = Steps before.divisor before.high (2 ^ 32) before.low after.low after.high after.q

  -- The two forms of the remainder are those of an odd and of an even quotient.
  by_parity :
      after.low % 2 ≡ truth (eqb after.q 0) → before.divisor < 2 ^ 32 →
      (r : Remainder before.divisor before.high (2 ^ 32) before.low after.low after.high after.q) →
      Stands before.divisor r.rest after.high after.q → Divided before after
  by_parity last small r (plain same clear) =
      let odd : after.low % 2 ≡ 1 = last ∙ ap (λ y. truth (eqb y 0)) clear in
      record {
        quotient = rw r.divides (sym (digits_div after.low r.below));
        odd_q = λ _. clear;
        odd_high = λ _. rw r.divides (same ∙ sym (digits_mod after.low r.below));
        even_q = λ even. absurd (omega arith);
        even_high = λ even. absurd (omega arith);
      }
  by_parity last small r (less same set) =
      let even : after.low % 2 ≡ 0 = last ∙ ap (λ y. truth (eqb y 0)) set in
      record {
        quotient = rw r.divides (sym (digits_div after.low r.below));
        odd_q = λ odd. absurd (omega arith);
        odd_high = λ odd. absurd (omega arith);
        even_q = λ _. set;
        even_high = λ _. rw (r.divides, digits_mod after.low r.below) (omega (arith, r.below));
      }

  pub divides : before.divisor < 2 ^ 32 → before.high < before.divisor → Taken → Divided before after
  divides small below taken =
      let r = remainder small below taken in
      by_parity (parity taken (omega arith)) small r r.stands

  pub complements : before.high < 2 ^ 32 → before.divisor ≡ 0 → Taken → Complemented before after
  complements small zero-divisor taken =
      let by_zero = subst (λ d. Steps d before.high (2 ^ 32) before.low after.low after.high after.q) zero-divisor taken in
      let s = shifted small by_zero 1 refl in
      let all : s.out ≡ before.high = omega (arith, s.parts, s.below) in
      let gone : s.stay ≡ 0 = omega (arith, s.below) in
      record {
        low = omega (arith, s.complement);
        high = s.value ∙ rw gone (omega arith);
        q = s.last ∙ ap (λ y. y % 2) all;
      }
