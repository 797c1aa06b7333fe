-- What the functions of the instructions promise: the clause of their instruction.
use Rattle.std.specs.Prelude.{◌≡◌, Bool, List, ℕ, ◌+◌, ◌*◌, ◌<◌, None, Option, Some}
use Rattle.numbers.specs.Numbers.{low32}
use Rattle.numbers.specs.declared.WithT.{WithT}
use Rattle.arithmetic.specs.Addresses.{following}
use Rattle.arithmetic.specs.Transfers.{exts_b, exts_w}
use Rattle.multiply.specs.declared.Mac.{Mac}
use Rattle.multiply.specs.Multiply.{mac_l, mac_w}
use Rattle.decoder.specs.declared.meaning.Meaning.{Meaning}
use Rattle.decoder.specs.declared.meaning.MultiplyAdd.{MultiplyAdd}
use Rattle.decoder.specs.declared.meaning.MultiplyAdd.TheVariants.{MacL, MacW}
use Rattle.decoder.specs.declared.meaning.Size.{Size}
use Rattle.decoder.specs.declared.meaning.Size.TheVariants.{Byte, Word, Long}
use Rattle.decoder.specs.declared.meaning.Address.{Address}
use Rattle.decoder.specs.declared.meaning.Address.TheVariants.{Indirect, Indexed, Displacement, GbrDisplacement}
use Rattle.decoder.specs.declared.meaning.ControlRegister.{ControlRegister}
use Rattle.decoder.specs.declared.meaning.ControlRegister.TheVariants.{Gbr, Sr, Vbr, Mach, Macl, Pr}
use Rattle.instructions.specs.Execute.{attempted, execute}
use Rattle.instructions.specs.Shapes.{gives_t, leads, storing, tells}
use Rattle.instructions.specs.declared.control.Control.{Control}
use Rattle.instructions.specs.declared.control.Flow.{Flow}
use Rattle.instructions.specs.declared.control.Flow.TheVariants.{Next}
use Rattle.instructions.specs.State.{State, reg, t_bit, masked, with_sr, with_gbr, with_vbr, with_pr, with_mach, with_macl}

abbrev pub state : List ℕ → Control → List ℕ → State
state r c memory = record { registers = r; control = c; memory = memory }

-- The instruction, which stands at the address in PC, turns these registers and this memory into those, and leads on by this flow.
abbrev pub Performs : Meaning → Control → List ℕ → List ℕ → Flow → Control → List ℕ → List ℕ → Type 0
Performs x c r memory f d q after = execute x (following c.pc) (state r c memory) ≡ leads f (state q d after)

-- The same of what a step attempts, in a slot or not.
abbrev pub Attempts : Bool → Meaning → Control → List ℕ → List ℕ → Flow → Control → List ℕ → List ℕ → Type 0
Attempts slot x c r memory f d q after = attempted slot x (following c.pc) (state r c memory) ≡ leads f (state q d after)

-- `Performs` of an instruction that has nothing to do with any control register but SR, said of SR alone.
abbrev pub OnSr : Meaning → ℕ → List ℕ → List ℕ → Flow → ℕ → List ℕ → List ℕ → Type 0
OnSr x sr r memory f sr' q after = (c : Control) → Performs x (with_sr sr c) r memory f (with_sr sr' c) q after

-- Of one that works on SR and the general registers alone, and leads on to the next.
abbrev pub Computes : Meaning → ℕ → List ℕ → ℕ → List ℕ → Type 0
Computes x sr r sr' q = (memory : List ℕ) → OnSr x sr r memory Next sr' q memory

-- A byte stored over the one that was read, in every state with this memory.
abbrev pub Replaces : ℕ → ℕ → List ℕ → Flow → List ℕ → Type 0
Replaces byte at memory f after =
    (r : List ℕ) (c : Control) →
    storing 1 at byte (state r c memory) ≡ leads f (state r c after)

-- T, a bit, is what an instruction tells where Rm and Rn are a and b.
abbrev pub Tells : (ℕ → ℕ → Meaning) → ℕ → ℕ → ℕ → Type 0
Tells x a b t =
    (t < 2) ×
    ((m n pc : ℕ) (s : State) → reg m s ≡ a → reg n s ≡ b → execute (x m n) pc s ≡ tells t s)

-- A value for Rn, and T, a bit, are what an instruction gives where Rm, Rn and T are a, b and t.
abbrev pub Gives : (ℕ → ℕ → Meaning) → ℕ → ℕ → ℕ → WithT → Type 0
Gives x a b t w =
    t < 2 →
    (w.t < 2) ×
    ((m n pc : ℕ) (s : State) → reg m s ≡ a → reg n s ≡ b → t_bit s ≡ t → execute (x m n) pc s ≡ gives_t n w s)

-- A value beside a T that stays.
abbrev pub keeping : ℕ → ℕ → WithT
keeping v t = record { value = v; t = t }

-- The bytes of a size; what a load of it puts into a register, of a value and of what was loaded; the effective address of an operand of that
-- size.
abbrev pub bytes : Size → ℕ
bytes Byte = 1
bytes Word = 2
bytes Long = 4

abbrev pub extended : Size → ℕ → ℕ
extended Byte v = exts_b v
extended Word v = exts_w v
extended Long v = v

abbrev pub extended_load : Size → Option ℕ → Option ℕ
extended_load size (Some v) = Some (extended size v)
extended_load size None = None

abbrev pub effective : Size → Address → State → ℕ
effective size (Indirect r) s = reg r s
effective size (Indexed r) s = low32 (reg 0 s + reg r s)
effective size (Displacement d r) s = low32 (reg r s + d * bytes size)
effective size (GbrDisplacement d) s = low32 (s.control.gbr + d * bytes size)

-- What LDC and LDS write, and STC and STS read.
abbrev pub with_control_register : ControlRegister → ℕ → Control → Control
with_control_register Gbr v c = with_gbr v c
with_control_register Sr v c = with_sr (masked v) c
with_control_register Vbr v c = with_vbr v c
with_control_register Mach v c = with_mach v c
with_control_register Macl v c = with_macl v c
with_control_register Pr v c = with_pr v c

abbrev pub control_register : ControlRegister → Control → ℕ
control_register Gbr c = c.gbr
control_register Sr c = c.sr
control_register Vbr c = c.vbr
control_register Mach c = c.mach
control_register Macl c = c.macl
control_register Pr c = c.pr

-- The size of an operand of MAC, and what MAC adds up.
abbrev pub operand_bytes : MultiplyAdd → ℕ
operand_bytes MacL = 4
operand_bytes MacW = 2

abbrev pub accumulated : MultiplyAdd → ℕ → ℕ → ℕ → ℕ → ℕ → Mac
accumulated MacL mach macl s a b = mac_l (record { mach = mach; macl = macl }) s a b
accumulated MacW mach macl s a b = mac_w (record { mach = mach; macl = macl }) s a b
