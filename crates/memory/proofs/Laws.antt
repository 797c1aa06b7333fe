-- The laws of loads and stores, over the number of bytes: 1 for a byte, 2 for a word, 4 for a long.
-- Assumes nothing.
use mathlib.Core.Path.{◌≡◌, refl, sym, ◌∙◌}
use mathlib.Core.Bool.{Bool, true, false, cond}
use mathlib.Core.List.{List}
use mathlib.Core.Logic.{inl, inr, ⊎_elim}
use Prim.Native.Nat.{ℕ, ◌+◌, ◌%◌, ◌^◌, ◌<◌}
use native.Mathlib.Omega.{arith}
use lib.ListN.{length, get_or}
use Rattle.std.specs.Prelude.{Some, None, Result, ⊤}
use Rattle.memory.specs.declared.access.Fault.{Fault}
use Rattle.memory.specs.Access.{accessible, value_at, loaded, written, stored_at, Stores}
use Rattle.memory.proofs.Tests.{inside}
use Rattle.memory.proofs.Bytes.{Bytes, Apart, length_written, written_elsewhere, written_bytes, value_same, value_written, value_small}

-- A load, and the test of an access, promise their answer by an equation: any two answers coincide.
pub determined : {A : Type 0} {promised a b : A} → a ≡ promised → b ≡ promised → a ≡ b
determined p q = p ∙ sym q

either : (P : List ℕ → Type 0) (test : Bool) (a b : List ℕ) → P a → P b → P (cond test a b)
either P true a b p q = p
either P false a b p q = q

module _ (k : ℕ) (memory : List ℕ) (address value : ℕ) where
  -- What holds of the memory, and of it with the bytes written, holds after the store.
  by_cases : (P : List ℕ → Type 0) → P (written k memory address value) → P memory → P (stored_at k memory address value)
  unfolding stored_at
  by_cases P = either P (accessible k memory address) (written k memory address value) memory

  pub store_keeps_length : length (stored_at k memory address value) ≡ length memory
  store_keeps_length = by_cases (λ m. length m ≡ length memory) (length_written k memory address value) refl

  pub store_keeps_bytes : Bytes memory → Bytes (stored_at k memory address value)
  store_keeps_bytes bytes = by_cases Bytes (written_bytes k memory address value bytes) bytes

  pub byte_elsewhere : (i : ℕ) → Apart k address 1 i → get_or (stored_at k memory address value) i 0 ≡ get_or memory i 0
  byte_elsewhere i apart =
      by_cases (λ m. get_or m i 0 ≡ get_or memory i 0) (written_elsewhere k memory address value i apart) refl

  pub store_writes : accessible k memory address ≡ true → stored_at k memory address value ≡ written k memory address value
  unfolding stored_at
  store_writes passed = rw passed

  -- No store changes what can be accessed.
  pub accessible_after_store :
      (j other : ℕ) → accessible j (stored_at k memory address value) other ≡ accessible j memory other
  unfolding accessible
  accessible_after_store j other = rw store_keeps_length

  pub load_after_store :
      accessible k memory address ≡ true → loaded k (stored_at k memory address value) address ≡ Some (value % 256 ^ k)
  unfolding loaded
  load_after_store passed =
      rw (
        accessible_after_store k address,
        passed,
        store_writes passed,
        value_written k memory address value (inside k memory address refl passed),
      )

  pub load_elsewhere :
      (j other : ℕ) → Apart k address j other → loaded j (stored_at k memory address value) other ≡ loaded j memory other
  unfolding loaded
  load_elsewhere j other apart =
      rw (
        accessible_after_store j other,
        value_same j (stored_at k memory address value) memory other
            (λ i below. byte_elsewhere (other + i) (⊎_elim (λ after. inl (omega arith)) (λ before. inr (omega arith)) apart)),
      )

  -- Any two results that a store may have coincide.
  pub store_determined :
      (a b : Result ⊤ Fault) (l m : List ℕ) → Stores k memory address value a l → Stores k memory address value b m → (a ≡ b) × (l ≡ m)
  store_determined a b l m s t = (determined s.answers t.answers, determined s.leaves t.leaves)

given_small : (test : Bool) (b n v : ℕ) → n < b → cond test (Some n) None ≡ Some v → v < b
given_small true b n v small given = let same : n ≡ v = cc in omega arith
given_small false b n v small given = let never : ◌≡◌ {A = ℕ} 0 1 = cc in omega arith

pub load_small :
    (k : ℕ) (memory : List ℕ) (address v : ℕ) → Bytes memory → loaded k memory address ≡ Some v → v < 256 ^ k
unfolding loaded
load_small k memory address v bytes given =
    given_small (accessible k memory address) (256 ^ k) (value_at k memory address) v
    (value_small k memory address bytes) given
