-- Each part of a meaning is within the width of its field: a register number has 4 bits, an immediate 8, and a displacement 4, 8 or 12,
-- as its code has one, two or three nibbles for it.
-- Assumes nothing.
use mathlib.Core.Bool.{Bool, true, ◌&&◌}
use Prim.Native.Nat.{ℕ, ◌^◌}
use lib.Dec.{ltb}
use Rattle.decoder.specs.declared.meaning.Meaning.{Meaning}
use Rattle.decoder.specs.declared.meaning.Meaning.TheVariants.{Undefined, NoOperand, OneRegister, CompareZero, TwoRegisters, Compare, Divide, Multiply, MultiplyAdd, Immediate, ImmediateR0, ImmediateByte, Load, LoadIncrement, Store, StoreDecrement, Relative, LoadControl, LoadControlLong, StoreControl, StoreControlLong, TasB, BranchIf, Branch, BranchTo, Return, Trapa}
use Rattle.decoder.specs.declared.meaning.Address.{Address}
use Rattle.decoder.specs.declared.meaning.Address.TheVariants.{Indirect, Indexed, Displacement, GbrDisplacement}

-- A number of at most k bits.
abbrev bits : ℕ → ℕ → Bool
bits k x = ltb x (2 ^ k)

abbrev address_within : Address → Bool
address_within (Indirect r) = bits 4 r
address_within (Indexed r) = bits 4 r
address_within (Displacement d r) = bits 4 d && bits 4 r
address_within (GbrDisplacement d) = bits 8 d

abbrev pub within : Meaning → Bool
within Undefined = true
within (NoOperand op) = true
within (OneRegister op n) = bits 4 n
within (CompareZero op n) = bits 4 n
within (TwoRegisters op m n) = bits 4 m && bits 4 n
within (Compare op m n) = bits 4 m && bits 4 n
within (Divide op m n) = bits 4 m && bits 4 n
within (Multiply op m n) = bits 4 m && bits 4 n
within (MultiplyAdd op m n) = bits 4 m && bits 4 n
within (Immediate op i n) = bits 8 i && bits 4 n
within (ImmediateR0 op i) = bits 8 i
within (ImmediateByte op i) = bits 8 i
within (Load size address n) = address_within address && bits 4 n
within (LoadIncrement size m n) = bits 4 m && bits 4 n
within (Store size m address) = bits 4 m && address_within address
within (StoreDecrement size m n) = bits 4 m && bits 4 n
within (Relative op d n) = bits 8 d && bits 4 n
within (LoadControl register m) = bits 4 m
within (LoadControlLong register m) = bits 4 m
within (StoreControl register n) = bits 4 n
within (StoreControlLong register n) = bits 4 n
within (TasB n) = bits 4 n
within (BranchIf op d) = bits 8 d
within (Branch op d) = bits 12 d
within (BranchTo op m) = bits 4 m
within (Return op) = true
within (Trapa i) = bits 8 i
