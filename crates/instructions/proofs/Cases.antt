-- What follows an access, by its two cases: what holds where the access succeeds, and of the fault, holds of the whole.
-- Assumes nothing.
use mathlib.Core.Path.{◌≡◌, refl}
use mathlib.Core.Bool.{Bool, true, false, cond}
use Prim.Native.Nat.{ℕ}
use Rattle.std.specs.Prelude.{None, Option, Some}
use Rattle.instructions.specs.Shapes.{Effect, leads, after_load}
use Rattle.instructions.specs.State.{State}
use Rattle.instructions.specs.declared.control.Flow.TheVariants.{Fault}

module _ (P : Effect → Type 0) (s : State) (faulted : P (leads Fault s)) where
  pub by_load : (l : Option ℕ) (f : ℕ → Effect) → ((v : ℕ) → l ≡ Some v → P (f v)) → P (after_load l s f)
  by_load (Some v) f follows = follows v refl
  by_load None f follows = faulted

  pub by_store : (test : Bool) (e : Effect) → P e → P (cond test e (leads Fault s))
  by_store true e done = done
  by_store false e done = faulted
