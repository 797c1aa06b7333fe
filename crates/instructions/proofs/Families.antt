-- The clauses of a family of instructions, as one law over what they differ in: the register, the size or the addressing mode.
-- Assumes nothing.
use mathlib.Core.Path.{◌≡◌, refl}
use Prim.Native.Nat.{ℕ}
use native.Mathlib.Nat.{mul-one}
use Rattle.decoder.specs.declared.meaning.Address.{Address}
use Rattle.decoder.specs.declared.meaning.Address.TheVariants.{Indirect, Indexed, Displacement, GbrDisplacement}
use Rattle.decoder.specs.declared.meaning.ControlRegister.{ControlRegister}
use Rattle.decoder.specs.declared.meaning.ControlRegister.TheVariants.{Gbr, Sr, Vbr, Mach, Macl, Pr}
use Rattle.decoder.specs.declared.meaning.Meaning.TheVariants.{Load, LoadIncrement, Store, StoreDecrement, LoadControl, LoadControlLong, StoreControl, StoreControlLong}
use Rattle.decoder.specs.declared.meaning.Size.{Size}
use Rattle.decoder.specs.declared.meaning.Size.TheVariants.{Byte, Word, Long}
use Rattle.instructions.specs.Execute.{execute}
use Rattle.instructions.specs.Shapes.{next, gives, loading, storing, storing_and, incremented, minus}
use Rattle.instructions.specs.Promises.{bytes, control_register, effective, extended, with_control_register}
use Rattle.instructions.specs.State.{State, reg, with_reg, changed}

pub load_control :
    (x : ControlRegister) (m pc : ℕ) (s : State) → execute (LoadControl x m) pc s ≡ next (changed (with_control_register x (reg m s)) s)
unfolding execute
load_control Gbr m pc s = refl
load_control Sr m pc s = refl
load_control Vbr m pc s = refl
load_control Mach m pc s = refl
load_control Macl m pc s = refl
load_control Pr m pc s = refl

pub store_control :
    (x : ControlRegister) (n pc : ℕ) (s : State) → execute (StoreControl x n) pc s ≡ gives n (control_register x s.control) s
unfolding execute
store_control Gbr n pc s = refl
store_control Sr n pc s = refl
store_control Vbr n pc s = refl
store_control Mach n pc s = refl
store_control Macl n pc s = refl
store_control Pr n pc s = refl

pub load_control_long :
    (x : ControlRegister) (m pc : ℕ) (s : State) →
    execute (LoadControlLong x m) pc s ≡
    loading 4 (reg m s) s (λ v. next (changed (with_control_register x v) (incremented 4 m s)))
unfolding execute
load_control_long Gbr m pc s = refl
load_control_long Sr m pc s = refl
load_control_long Vbr m pc s = refl
load_control_long Mach m pc s = refl
load_control_long Macl m pc s = refl
load_control_long Pr m pc s = refl

pub store_control_long :
    (x : ControlRegister) (n pc : ℕ) (s : State) →
    execute (StoreControlLong x n) pc s ≡
    storing_and 4 (minus (reg n s) 4) (control_register x s.control) s (with_reg n (minus (reg n s) 4))
unfolding execute
store_control_long Gbr n pc s = refl
store_control_long Sr n pc s = refl
store_control_long Vbr n pc s = refl
store_control_long Mach n pc s = refl
store_control_long Macl n pc s = refl
store_control_long Pr n pc s = refl

pub load :
    (k : Size) (a : Address) (n pc : ℕ) (s : State) →
    execute (Load k a n) pc s ≡ loading (bytes k) (effective k a s) s (λ v. gives n (extended k v) s)
unfolding execute
load Byte (Indirect r) n pc s = refl
load Byte (Indexed r) n pc s = refl
load Byte (Displacement d r) n pc s = rw (mul-one d)
load Byte (GbrDisplacement d) n pc s = rw (mul-one d)
load Word (Indirect r) n pc s = refl
load Word (Indexed r) n pc s = refl
load Word (Displacement d r) n pc s = refl
load Word (GbrDisplacement d) n pc s = refl
load Long (Indirect r) n pc s = refl
load Long (Indexed r) n pc s = refl
load Long (Displacement d r) n pc s = refl
load Long (GbrDisplacement d) n pc s = refl

pub store :
    (k : Size) (m : ℕ) (a : Address) (pc : ℕ) (s : State) →
    execute (Store k m a) pc s ≡ storing (bytes k) (effective k a s) (reg m s) s
unfolding execute
store Byte m (Indirect r) pc s = refl
store Byte m (Indexed r) pc s = refl
store Byte m (Displacement d r) pc s = rw (mul-one d)
store Byte m (GbrDisplacement d) pc s = rw (mul-one d)
store Word m (Indirect r) pc s = refl
store Word m (Indexed r) pc s = refl
store Word m (Displacement d r) pc s = refl
store Word m (GbrDisplacement d) pc s = refl
store Long m (Indirect r) pc s = refl
store Long m (Indexed r) pc s = refl
store Long m (Displacement d r) pc s = refl
store Long m (GbrDisplacement d) pc s = refl

pub load_increment :
    (k : Size) (m n pc : ℕ) (s : State) →
    execute (LoadIncrement k m n) pc s ≡ loading (bytes k) (reg m s) s (λ v. gives n (extended k v) (incremented (bytes k) m s))
unfolding execute
load_increment Byte m n pc s = refl
load_increment Word m n pc s = refl
load_increment Long m n pc s = refl

pub store_decrement :
    (k : Size) (m n pc : ℕ) (s : State) →
    execute (StoreDecrement k m n) pc s ≡
    storing_and (bytes k) (minus (reg n s) (bytes k)) (reg m s) s (with_reg n (minus (reg n s) (bytes k)))
unfolding execute
store_decrement Byte m n pc s = refl
store_decrement Word m n pc s = refl
store_decrement Long m n pc s = refl
