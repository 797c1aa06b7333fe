-- A load and a store of k bytes of the memory: a byte for k = 1, a word for 2, a long for 4.
-- Document 01, "Memory": big-endian; a word needs an even address, a long a multiple of 4; each byte must lie inside.
use Rattle.std.specs.Prelude.{◌≡◌, Bool, ◌&&◌, if◌then◌else◌, List, ℕ, zero, suc, ◌+◌, ◌*◌, ◌/◌, ◌%◌, ◌<◌, ◌==◌, nat_le, length, slice_index, slice_set, Option, Some, None, Result, Ok, Err, ⊤}
use Rattle.memory.specs.declared.access.Fault.{Fault}

unfoldable pub accessible : ℕ → List ℕ → ℕ → Bool
accessible k memory address = (address % k == 0) && nat_le (address + k) (length memory)

-- The number that k bytes make, the most significant first.
unfoldable pub value_at : ℕ → List ℕ → ℕ → ℕ
value_at zero memory address = 0
value_at (suc k) memory address = value_at k memory address * 256 + slice_index memory (address + k)

-- What a load gives: nothing where the access faults.
unfoldable pub loaded : ℕ → List ℕ → ℕ → Option ℕ
loaded k memory address = if accessible k memory address then Some (value_at k memory address) else None

-- Every byte that a store changes is changed here: the one place that says which bytes may change.
unfoldable pub put : List ℕ → ℕ → ℕ → List ℕ
put memory address byte = slice_set memory address byte

-- The memory with the low k bytes of a value, the most significant first.
unfoldable pub written : ℕ → List ℕ → ℕ → ℕ → List ℕ
written zero memory address value = memory
written (suc k) memory address value = put (written k memory address (value / 256)) (address + k) (value % 256)

-- Whether a store is done.
unfoldable pub answered : ℕ → List ℕ → ℕ → Result ⊤ Fault
answered k memory address = if accessible k memory address then Ok tt else Err (record {})

unfoldable pub stored_at : ℕ → List ℕ → ℕ → ℕ → List ℕ
stored_at k memory address value = if accessible k memory address then written k memory address value else memory

-- What a store promises: its answer, and the whole memory.
pub record Stores (k : ℕ) (before : List ℕ) (address value : ℕ) (answer : Result ⊤ Fault) (after : List ℕ) : Type 0 where
  pub answers : answer ≡ answered k before address
  pub leaves : after ≡ stored_at k before address value

-- What reading one byte promises.
pub record ByteAt (memory : List ℕ) (at byte : ℕ) : Type 0 where
  pub same : byte ≡ slice_index memory at
  pub small : byte < 256
