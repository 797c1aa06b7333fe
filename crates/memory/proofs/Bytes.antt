-- The bytes of a memory: what one put byte changes, and what the k bytes of a store change.
-- Assumes nothing.
use mathlib.Core.Path.{◌≡◌, refl, sym, ◌∙◌}
use mathlib.Core.List.{List, [], ◌∷◌}
use mathlib.Core.Logic.{◌⊎◌, inl, inr, ⊎_elim}
use Prim.Native.Nat.{ℕ, zero, suc, ◌+◌, ◌/◌, ◌%◌, ◌^◌, ◌≤◌, ◌<◌}
use native.Mathlib.Nat.{one-le-pow, pow-suc, mod-one, mod-lt}
use native.Mathlib.Omega.{arith}
use lib.Arith.{mod-mul, digits_lt}
use lib.Dec.{lit<}
use lib.ListN.{length, get_or, length-set}
use lib.Seq.{get_or-set_same, get_or-set_other}
use Rattle.memory.specs.Access.{value_at, put, written}

-- Every element is a byte.
abbrev pub Bytes : List ℕ → Type 0
Bytes memory = (i : ℕ) → get_or memory i 0 < 256

-- k bytes from a and j bytes from b have no byte in common.
abbrev pub Apart : ℕ → ℕ → ℕ → ℕ → Type 0
Apart k a j b = (a + k ≤ b) ⊎ (b + j ≤ a)

-- Four laws of one put byte, on which all the others rest.
pub length_put : (memory : List ℕ) (address byte : ℕ) → length (put memory address byte) ≡ length memory
unfolding put
length_put memory address byte = length-set memory address byte

pub put_here :
    (memory : List ℕ) (address byte : ℕ) → address < length memory → get_or (put memory address byte) address 0 ≡ byte
unfolding put
put_here memory address byte inside = get_or-set_same memory address byte 0 inside

pub put_elsewhere :
    (memory : List ℕ) (address byte i : ℕ) → (i ≡ address → ⊥) → get_or (put memory address byte) i 0 ≡ get_or memory i 0
unfolding put
put_elsewhere memory address byte i other = get_or-set_other memory address i byte 0 other

pub put_bytes : (memory : List ℕ) (address byte : ℕ) → byte < 256 → Bytes memory → Bytes (put memory address byte)
unfolding put
put_bytes [] address byte small bytes i = bytes i
put_bytes (b ∷ memory) zero byte small bytes zero = small
put_bytes (b ∷ memory) zero byte small bytes (suc i) = bytes (suc i)
put_bytes (b ∷ memory) (suc address) byte small bytes zero = bytes zero
put_bytes (b ∷ memory) (suc address) byte small bytes (suc i) = put_bytes memory address byte small (λ j. bytes (suc j)) i

pub length_written : (k : ℕ) (memory : List ℕ) (address value : ℕ) → length (written k memory address value) ≡ length memory
unfolding written
length_written zero memory address value = refl
length_written (suc k) memory address value =
    length_put (written k memory address (value / 256)) (address + k) (value % 256)
    ∙ length_written k memory address (value / 256)

pub written_elsewhere :
    (k : ℕ) (memory : List ℕ) (address value i : ℕ) → Apart k address 1 i →
    get_or (written k memory address value) i 0 ≡ get_or memory i 0
unfolding written
written_elsewhere zero memory address value i apart = refl
written_elsewhere (suc k) memory address value i apart =
    put_elsewhere (written k memory address (value / 256)) (address + k) (value % 256) i
    (λ same. ⊎_elim (λ after. omega arith) (λ before. omega arith) apart)
    ∙ written_elsewhere k memory address (value / 256) i (⊎_elim (λ after. inl (omega arith)) (λ before. inr before) apart)

pub written_bytes : (k : ℕ) (memory : List ℕ) (address value : ℕ) → Bytes memory → Bytes (written k memory address value)
unfolding written
written_bytes zero memory address value bytes = bytes
written_bytes (suc k) memory address value bytes =
    put_bytes (written k memory address (value / 256)) (address + k) (value % 256) (mod-lt value (lit< tt))
    (written_bytes k memory address (value / 256) bytes)

-- The number depends on its own bytes alone.
pub value_same :
    (k : ℕ) (memory other : List ℕ) (address : ℕ) →
    ((i : ℕ) → i < k → get_or memory (address + i) 0 ≡ get_or other (address + i) 0) →
    value_at k memory address ≡ value_at k other address
unfolding value_at
value_same zero memory other address same = refl
value_same (suc k) memory other address same =
    rw (same k (omega arith), value_same k memory other address (λ i below. same i (omega arith)))

pub value_written :
    (k : ℕ) (memory : List ℕ) (address value : ℕ) → address + k ≤ length memory →
    value_at k (written k memory address value) address ≡ value % 256 ^ k
unfolding value_at written
value_written zero memory address value inside = sym (mod-one value)
value_written (suc k) memory address value inside =
    let before : List ℕ = written k memory address (value / 256) in
    let here : address + k < length before = rw (length_written k memory address (value / 256)) (omega arith) in
    rw (
      put_here before (address + k) (value % 256) here,
      value_same k (put before (address + k) (value % 256)) before address
          (λ i below. put_elsewhere before (address + k) (value % 256) (address + i) (λ same. omega arith)),
      value_written k memory address (value / 256) (omega arith),
      pow-suc 256 k,
    )
    (sym (mod-mul value (one-le-pow k 256 (lit< tt)) (lit< tt)))

pub value_small : (k : ℕ) (memory : List ℕ) (address : ℕ) → Bytes memory → value_at k memory address < 256 ^ k
unfolding value_at
value_small zero memory address bytes = lit< tt
value_small (suc k) memory address bytes =
    rw (pow-suc 256 k) (digits_lt (value_small k memory address bytes) (bytes (address + k)))
