-- Any two results that a promise about an instruction allows coincide: each says what the one definition gives.
-- Assumes nothing.
use mathlib.Core.Path.{◌≡◌, refl, ap}
use mathlib.Core.Bool.{Bool}
use mathlib.Core.List.{List, [], ◌∷◌}
use Prim.Native.Nat.{ℕ, ◌+◌, ◌*◌, ◌/◌, ◌%◌, ◌<◌}
use native.Mathlib.Omega.{arith}
use Rattle.numbers.specs.declared.WithT.{WithT}
use Rattle.decoder.specs.declared.meaning.Meaning.{Meaning}
use Rattle.instructions.specs.declared.control.Control.{Control}
use Rattle.instructions.specs.declared.control.Flow.{Flow}
use Rattle.instructions.specs.Promises.{Attempts, Computes, Gives, OnSr, Performs, Tells, state}
use Rattle.instructions.specs.Shapes.{Effect, leads}
use Rattle.instructions.specs.State.{State, control, reg, t_bit}
use Rattle.instructions.proofs.Answers.{met}

-- Two results are one: flow, control registers, general registers and memory.
pub record Same (f g : Flow) (c d : Control) (q r l m : List ℕ) : Type 0 where
  pub flow : f ≡ g
  pub control : c ≡ d
  pub registers : q ≡ r
  pub memory : l ≡ m

module _ {f g : Flow} {c d : Control} {q r l m : List ℕ} where
  -- Both are what one effect is, whatever it is of.
  pub same_effect : {e : Effect} → e ≡ leads f (state q c l) → e ≡ leads g (state r d m) → Same f g c d q r l m
  same_effect one other =
      let both = met one other in
      record {
        flow = ap (λ (x : Effect). x.flow) both;
        control = ap (λ (x : Effect). x.after.control) both;
        registers = ap (λ (x : Effect). x.after.registers) both;
        memory = ap (λ (x : Effect). x.after.memory) both;
      }

  pub performs_determined :
      (x : Meaning) (before : Control) (general memory : List ℕ) → Performs x before general memory f c q l →
      Performs x before general memory g d r m → Same f g c d q r l m
  performs_determined x before general memory one other = same_effect one other

  pub attempts_determined :
      (slot : Bool) (x : Meaning) (before : Control) (general memory : List ℕ) →
      Attempts slot x before general memory f c q l → Attempts slot x before general memory g d r m → Same f g c d q r l m
  attempts_determined slot x before general memory one other = same_effect one other

-- The promises that hold whatever the other control registers hold, or the memory: they hold where those are 0 and empty.
module _ {sr sr' : ℕ} {q r : List ℕ} where
  pub on_sr_determined :
      {f g : Flow} {l m : List ℕ} (x : Meaning) (before : ℕ) (general memory : List ℕ) →
      OnSr x before general memory f sr q l → OnSr x before general memory g sr' r m →
      (f ≡ g) × (sr ≡ sr') × (q ≡ r) × (l ≡ m)
  on_sr_determined {f} {g} {l} {m} x before general memory one other =
      let none = control 0 0 0 0 0 0 0 in
      let same = same_effect {f = f} {g = g} {l = l} {m = m} (one none) (other none) in
      (same.flow, ap (λ (c : Control). c.sr) same.control, same.registers, same.memory)

  pub computes_determined :
      (x : Meaning) (before : ℕ) (general : List ℕ) → Computes x before general sr q → Computes x before general sr' r →
      (sr ≡ sr') × (q ≡ r)
  computes_determined x before general one other =
      let all = on_sr_determined x before general [] (one []) (other []) in
      (all.1, all.2)

-- What is computed for Rn and T, where Rm is a, Rn is b and T is t: two results are told apart in a machine with these in R1, R2 and SR.
module _ (x : ℕ → ℕ → Meaning) (a b : ℕ) where
  abbrev with_t : ℕ → State
  with_t t = state (0 ∷ a ∷ b ∷ []) (control 0 t 0 0 0 0 0) []

  pub tells_determined : {t u : ℕ} → Tells x a b t → Tells x a b u → t ≡ u
  tells_determined {t} {u} one other =
      let s = with_t 0 in
      let both = met (one.1 1 2 0 s refl refl) (other.1 1 2 0 s refl refl) in
      let same : (0 / 2 * 2 + t % 2) % 2 ≡ (0 / 2 * 2 + u % 2) % 2 = ap (λ (e : Effect). t_bit e.after) both in
      omega (arith, same, one.0, other.0)

  pub gives_determined : {t : ℕ} {v w : WithT} → t < 2 → Gives x a b t v → Gives x a b t w → (v.value ≡ w.value) × (v.t ≡ w.t)
  gives_determined {t} {v} {w} small one other =
      let s = with_t t in
      let bit : t % 2 ≡ t = omega arith in
      let both = met ((one small).1 1 2 0 s refl refl bit) ((other small).1 1 2 0 s refl refl bit) in
      let same : (t / 2 * 2 + v.t % 2) % 2 ≡ (t / 2 * 2 + w.t % 2) % 2 = ap (λ (e : Effect). t_bit e.after) both in
      (ap (λ (e : Effect). reg 2 e.after) both, omega (arith, same, (one small).0, (other small).0))
