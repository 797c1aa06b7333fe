-- The ranges of a state (document 01, "State"): sixteen registers and the control registers below 2^32, SR within its mask, and a memory
-- of bytes. Every instruction keeps them, and an address to which it leads is below 2^32.
-- Assumes nothing.
use mathlib.Core.Path.{◌≡◌, ◌∙◌}
use mathlib.Core.Bool.{Bool, true, false, ◌&&◌, cond}
use mathlib.Core.List.{List, [], ◌∷◌}
use Prim.Native.Nat.{ℕ, zero, suc, ◌+◌, ◌%◌, ◌^◌, ◌<◌}
use native.Mathlib.Omega.{arith}
use lib.Bits.{bit_or, or_lt, xor_lt}
use lib.Dec.{T, eqb, ltb→lt}
use lib.IntN.{◌*ℤ◌}
use lib.Signed.{shr_z}
use lib.ListN.{get_or, length, length-set, set}
use Rattle.numbers.specs.Numbers.{signed_byte, signed_word, signed_long, truth}
use Rattle.memory.specs.Access.{accessible, loaded, written}
use Rattle.memory.proofs.Bytes.{Bytes, written_bytes}
use Rattle.memory.proofs.Laws.{load_small}
use Rattle.multiply.specs.declared.Mac.{Mac}
use Rattle.decoder.specs.Slot.{rewrites_pc}
use Rattle.decoder.proofs.Widths.{within}
use Rattle.decoder.specs.declared.meaning.Meaning.{Meaning}
use Rattle.decoder.specs.declared.meaning.Meaning.TheVariants.{Undefined, NoOperand, OneRegister, CompareZero, TwoRegisters, Compare, Divide, Multiply, MultiplyAdd, Immediate, ImmediateR0, ImmediateByte, Load, LoadIncrement, Store, StoreDecrement, Relative, LoadControl, LoadControlLong, StoreControl, StoreControlLong, TasB, BranchIf, Branch, BranchTo, Return, Trapa}
use Rattle.decoder.specs.declared.meaning.NoOperand.TheVariants.{Clrmac, Clrt, Div0u, Nop, Sett, Sleep}
use Rattle.decoder.specs.declared.meaning.OneRegister.TheVariants.{Dt, Movt, Rotcl, Rotcr, Rotl, Rotr, Shal, Shar, Shll, Shll2, Shll8, Shll16, Shlr, Shlr2, Shlr8, Shlr16}
use Rattle.decoder.specs.declared.meaning.CompareZero.TheVariants.{CmpPl, CmpPz}
use Rattle.decoder.specs.declared.meaning.TwoRegisters.TheVariants.{Add, Addc, Addv, And, ExtsB, ExtsW, ExtuB, ExtuW, Mov, Neg, Negc, Not, Or, Sub, Subc, Subv, SwapB, SwapW, Xor, Xtrct}
use Rattle.decoder.specs.declared.meaning.Compare.TheVariants.{CmpEq, CmpGe, CmpGt, CmpHi, CmpHs, CmpStr, Tst}
use Rattle.decoder.specs.declared.meaning.ControlRegister.{ControlRegister}
use Rattle.decoder.specs.declared.meaning.ControlRegister.TheVariants.{Gbr, Sr, Vbr, Mach, Macl, Pr}
use Rattle.decoder.specs.declared.meaning.Divide.TheVariants.{Div0s, Div1}
use Rattle.decoder.specs.declared.meaning.Multiply.TheVariants.{DmulsL, DmuluL, MulL, MulsW, MuluW}
use Rattle.decoder.specs.declared.meaning.MultiplyAdd.TheVariants.{MacL, MacW}
use Rattle.decoder.specs.declared.meaning.Immediate.TheVariants.{AddImm, MovImm}
use Rattle.decoder.specs.declared.meaning.ImmediateR0.TheVariants.{AndImm, CmpEqImm, OrImm, TstImm, XorImm}
use Rattle.decoder.specs.declared.meaning.ImmediateByte.TheVariants.{AndB, OrB, TstB, XorB}
use Rattle.decoder.specs.declared.meaning.Relative.TheVariants.{MovW, MovL, Mova}
use Rattle.decoder.specs.declared.meaning.BranchIf.TheVariants.{Bf, BfS, Bt, BtS}
use Rattle.decoder.specs.declared.meaning.Branch.TheVariants.{Bra, Bsr}
use Rattle.decoder.specs.declared.meaning.BranchTo.TheVariants.{Braf, Bsrf, Jmp, Jsr}
use Rattle.decoder.specs.declared.meaning.Return.TheVariants.{Rte, Rts}
use Rattle.decoder.specs.declared.meaning.Size.{Size}
use Rattle.decoder.specs.declared.meaning.Size.TheVariants.{Byte, Word, Long}
use Rattle.instructions.specs.Execute.{attempted, execute}
use Rattle.instructions.specs.Promises.{bytes, control_register, extended, keeping, with_control_register}
use Rattle.instructions.specs.Shapes.{Effect, leads, next, gives, gives_t, gives_macl, gives_mac, loading, storing_and, incremented, minus}
use Rattle.instructions.specs.State.{State, reg, with_reg, with_memory, t_bit, s_bit, q_bit, m_bit, mac, masked, with_pc, with_sr, with_t, with_mqt, with_gbr, with_vbr, with_pr, with_mac, changed}
use Rattle.instructions.specs.declared.control.Control.{Control}
use Rattle.instructions.specs.declared.control.Flow.{Flow}
use Rattle.instructions.specs.declared.control.Flow.TheVariants.{Next, Jump, Delay, Sleep as Sleeps, Trap, Fault, Illegal}
use Rattle.instructions.proofs.Cases.{by_load, by_store}
use Rattle.instructions.proofs.Bounds.{low32_below, low_bits_below, part_below, and_below, complement_below, swap_b_below, xtrct_below, rotl_below, rotr_below, mulu_w_below, div1_below, MacBelow, dmuls_l_below, dmulu_l_below, mac_l_below, mac_w_below}
use Rattle.instructions.proofs.Families.{load, store, load_increment, store_decrement, load_control, load_control_long, store_control, store_control_long}
use Rattle.instructions.proofs.Status.{masked_below, masked_again, t_masked, mqt_masked}

-- Every element is below a bound.
abbrev pub Below : ℕ → List ℕ → Type 0
Below bound l = (i : ℕ) → get_or l i 0 < bound

set_below : (bound : ℕ) (l : List ℕ) (i v : ℕ) → v < bound → Below bound l → Below bound (set l i v)
set_below bound [] i v small below j = below j
set_below bound (a ∷ l) zero v small below zero = small
set_below bound (a ∷ l) zero v small below (suc j) = below (suc j)
set_below bound (a ∷ l) (suc i) v small below zero = below zero
set_below bound (a ∷ l) (suc i) v small below (suc j) = set_below bound l i v small (λ k. below (suc k)) j

pub record ControlInRange (c : Control) : Type 0 where
  pub pc : c.pc < 2 ^ 32
  pub sr : masked c.sr ≡ c.sr
  pub gbr : c.gbr < 2 ^ 32
  pub vbr : c.vbr < 2 ^ 32
  pub pr : c.pr < 2 ^ 32
  pub mach : c.mach < 2 ^ 32
  pub macl : c.macl < 2 ^ 32

pub record StateInRange (s : State) : Type 0 where
  pub sixteen : length s.registers ≡ 16
  pub registers : Below (2 ^ 32) s.registers
  pub control : ControlInRange s.control
  pub memory : Bytes s.memory

-- The address to which an instruction leads.
abbrev pub TargetInRange : Flow → Type 0
TargetInRange Next = Unit
TargetInRange (Jump target) = target < 2 ^ 32
TargetInRange (Delay target) = target < 2 ^ 32
TargetInRange Sleeps = Unit
TargetInRange (Trap number) = Unit
TargetInRange Fault = Unit
TargetInRange Illegal = Unit

pub record EffectInRange (e : Effect) : Type 0 where
  pub after : StateInRange e.after
  pub target : TargetInRange e.flow

-- A state with one part changed.
pub register_changed : {s : State} → StateInRange s → (n : ℕ) {v : ℕ} → v < 2 ^ 32 → StateInRange (with_reg n v s)
register_changed {s} r n {v} below =
    record {
      sixteen = length-set s.registers (n % 16) v ∙ r.sixteen;
      registers = set_below (2 ^ 32) s.registers (n % 16) v below r.registers;
      control = r.control;
      memory = r.memory;
    }

pub control_changed :
    {s : State} {c : Control} → StateInRange s → ControlInRange c →
    StateInRange (record { registers = s.registers; control = c; memory = s.memory })
control_changed r new = record { sixteen = r.sixteen; registers = r.registers; control = new; memory = r.memory }

pub memory_changed : {s : State} → StateInRange s → (m : List ℕ) → Bytes m → StateInRange (with_memory m s)
memory_changed r m new = record { sixteen = r.sixteen; registers = r.registers; control = r.control; memory = new }

-- The control registers with one changed.
module _ {c : Control} (r : ControlInRange c) where
  pub pc_changed : {v : ℕ} → v < 2 ^ 32 → ControlInRange (with_pc v c)
  pc_changed new =
      record { pc = new; sr = r.sr; gbr = r.gbr; vbr = r.vbr; pr = r.pr; mach = r.mach; macl = r.macl }

  sr_changed : {v : ℕ} → masked v ≡ v → ControlInRange (with_sr v c)
  sr_changed new =
      record { pc = r.pc; sr = new; gbr = r.gbr; vbr = r.vbr; pr = r.pr; mach = r.mach; macl = r.macl }

  gbr_changed : {v : ℕ} → v < 2 ^ 32 → ControlInRange (with_gbr v c)
  gbr_changed new =
      record { pc = r.pc; sr = r.sr; gbr = new; vbr = r.vbr; pr = r.pr; mach = r.mach; macl = r.macl }

  vbr_changed : {v : ℕ} → v < 2 ^ 32 → ControlInRange (with_vbr v c)
  vbr_changed new =
      record { pc = r.pc; sr = r.sr; gbr = r.gbr; vbr = new; pr = r.pr; mach = r.mach; macl = r.macl }

  pr_changed : {v : ℕ} → v < 2 ^ 32 → ControlInRange (with_pr v c)
  pr_changed new =
      record { pc = r.pc; sr = r.sr; gbr = r.gbr; vbr = r.vbr; pr = new; mach = r.mach; macl = r.macl }

  mac_changed : {h l : ℕ} → h < 2 ^ 32 → l < 2 ^ 32 → ControlInRange (with_mac h l c)
  mac_changed high low =
      record { pc = r.pc; sr = r.sr; gbr = r.gbr; vbr = r.vbr; pr = r.pr; mach = high; macl = low }

  loaded_control : (x : ControlRegister) (v : ℕ) → v < 2 ^ 32 → ControlInRange (with_control_register x v c)
  loaded_control Gbr v below = gbr_changed below
  loaded_control Sr v below = sr_changed (masked_again v)
  loaded_control Vbr v below = vbr_changed below
  loaded_control Mach v below = mac_changed below r.macl
  loaded_control Macl v below = mac_changed r.mach below
  loaded_control Pr v below = pr_changed below

  stored_control : (x : ControlRegister) → control_register x c < 2 ^ 32
  stored_control Gbr = r.gbr
  stored_control Sr = rw r.sr at (masked_below c.sr)
  stored_control Vbr = r.vbr
  stored_control Mach = r.mach
  stored_control Macl = r.macl
  stored_control Pr = r.pr

extended_below : (size : Size) (v : ℕ) → v < 256 ^ bytes size → extended size v < 2 ^ 32
extended_below Byte v below = low_bits_below 32 (signed_byte v)
extended_below Word v below = low_bits_below 32 (signed_word v)
extended_below Long v below = below

onward : {s : State} → StateInRange s → EffectInRange (next s)
onward r = record { after = r; target = tt }

-- The shapes of the effects.
module _ {s : State} (r : StateInRange s) where
  reg_below : (n : ℕ) → reg n s < 2 ^ 32
  reg_below n = r.registers (n % 16)

  into : (n : ℕ) {v : ℕ} → v < 2 ^ 32 → EffectInRange (gives n v s)
  into n below = onward (register_changed r n below)

  t_changed : (t : ℕ) → StateInRange (changed (with_t t) s)
  t_changed t = control_changed r (sr_changed r.control (t_masked s.control.sr r.control.sr t))

  mqt_changed : (m q t : ℕ) → StateInRange (changed (with_mqt m q t) s)
  mqt_changed m q t = control_changed r (sr_changed r.control (mqt_masked s.control.sr r.control.sr m q t))

  stepped : (k n : ℕ) → StateInRange (incremented k n s)
  stepped k n = register_changed r n (low32_below (reg n s + k))

  multiplies : {a : Mac} → MacBelow a → EffectInRange (gives_mac a s)
  multiplies below = onward (control_changed r (mac_changed r.control below.mach below.macl))

  multiplies_low : {v : ℕ} → v < 2 ^ 32 → EffectInRange (gives_macl v s)
  multiplies_low below = onward (control_changed r (mac_changed r.control r.control.mach below))

  returns : {pc : ℕ} → pc < 2 ^ 32 → StateInRange (changed (with_pr pc) s)
  returns below = control_changed r (pr_changed r.control below)

  faults : EffectInRange (leads Fault s)
  faults = record { after = r; target = tt }

  loads :
      (k a : ℕ) {f : ℕ → Effect} → ((v : ℕ) → v < 256 ^ k → EffectInRange (f v)) → EffectInRange (loading k a s f)
  loads k a {f} follows =
      by_load EffectInRange s faults (loaded k s.memory a) f
      (λ v given. follows v (load_small k s.memory a v r.memory given))

  -- What a store does besides keeps the ranges.
  stores :
      (k a v : ℕ) {f : State → State} → ((t : State) → StateInRange t → StateInRange (f t)) →
      EffectInRange (storing_and k a v s f)
  stores k a v {f} besides =
      by_store EffectInRange s faults (accessible k s.memory a) (next (f (with_memory (written k s.memory a v) s)))
      (onward (besides (with_memory (written k s.memory a v) s) (memory_changed r (written k s.memory a v) (written_bytes k s.memory a v r.memory))))

  -- A branch that is taken or not.
  branches_if : (test : Bool) (flow : Flow) → TargetInRange flow → EffectInRange (leads (cond test flow Next) s)
  branches_if true flow below = record { after = r; target = below }
  branches_if false flow below = record { after = r; target = tt }

into_t : {s : State} → StateInRange s → (n t : ℕ) {v : ℕ} → v < 2 ^ 32 → EffectInRange (gives_t n (keeping v t) s)
into_t r n t below = onward (t_changed (register_changed r n below) t)

delays : {s : State} {target : ℕ} → target < 2 ^ 32 → StateInRange s → EffectInRange (leads (Delay target) s)
delays below r = record { after = r; target = below }

executes :
    (x : Meaning) (pc : ℕ) (s : State) → T (within x) → pc < 2 ^ 32 → StateInRange s → EffectInRange (execute x pc s)
unfolding execute
executes Undefined pc s fits below r = record { after = r; target = tt }
executes (NoOperand Clrmac) pc s fits below r = multiplies r (record { mach = omega arith; macl = omega arith })
executes (NoOperand Clrt) pc s fits below r = onward (t_changed r 0)
executes (NoOperand Div0u) pc s fits below r = onward (mqt_changed r 0 0 0)
executes (NoOperand Nop) pc s fits below r = onward r
executes (NoOperand Sett) pc s fits below r = onward (t_changed r 1)
executes (NoOperand Sleep) pc s fits below r = record { after = r; target = tt }
executes (OneRegister Dt n) pc s fits below r = into_t r n _ (low32_below _)
executes (OneRegister Movt n) pc s fits below r = into r n (omega arith)
executes (OneRegister Rotcl n) pc s fits below r = into_t r n _ (low32_below _)
executes (OneRegister Rotcr n) pc s fits below r = into_t r n _ (low32_below _)
executes (OneRegister Rotl n) pc s fits below r = into_t r n _ (rotl_below (reg_below r n))
executes (OneRegister Rotr n) pc s fits below r = into_t r n _ (rotr_below (reg_below r n))
executes (OneRegister Shal n) pc s fits below r = into_t r n _ (low32_below _)
executes (OneRegister Shar n) pc s fits below r = into_t r n _ (low_bits_below 32 (shr_z (signed_long (reg n s)) 2))
executes (OneRegister Shll n) pc s fits below r = into_t r n _ (low32_below _)
executes (OneRegister Shll2 n) pc s fits below r = into r n (low32_below _)
executes (OneRegister Shll8 n) pc s fits below r = into r n (low32_below _)
executes (OneRegister Shll16 n) pc s fits below r = into r n (low32_below _)
executes (OneRegister Shlr n) pc s fits below r = into_t r n _ (part_below 2 (reg_below r n))
executes (OneRegister Shlr2 n) pc s fits below r = into r n (part_below (2 ^ 2) (reg_below r n))
executes (OneRegister Shlr8 n) pc s fits below r = into r n (part_below (2 ^ 8) (reg_below r n))
executes (OneRegister Shlr16 n) pc s fits below r = into r n (part_below (2 ^ 16) (reg_below r n))
executes (CompareZero CmpPl n) pc s fits below r = onward (t_changed r _)
executes (CompareZero CmpPz n) pc s fits below r = onward (t_changed r _)
executes (TwoRegisters Add m n) pc s fits below r = into r n (low32_below _)
executes (TwoRegisters Addc m n) pc s fits below r = into_t r n _ (low32_below _)
executes (TwoRegisters Addv m n) pc s fits below r = into_t r n _ (low32_below _)
executes (TwoRegisters And m n) pc s fits below r = into r n (and_below (reg m s) (reg_below r n))
executes (TwoRegisters ExtsB m n) pc s fits below r = into r n (low_bits_below 32 (signed_byte (reg m s)))
executes (TwoRegisters ExtsW m n) pc s fits below r = into r n (low_bits_below 32 (signed_word (reg m s)))
executes (TwoRegisters ExtuB m n) pc s fits below r = into r n (omega arith)
executes (TwoRegisters ExtuW m n) pc s fits below r = into r n (omega arith)
executes (TwoRegisters Mov m n) pc s fits below r = into r n (reg_below r m)
executes (TwoRegisters Neg m n) pc s fits below r = into r n (low32_below _)
executes (TwoRegisters Negc m n) pc s fits below r = into_t r n _ (low32_below _)
executes (TwoRegisters Not m n) pc s fits below r = into r n (complement_below (reg m s))
executes (TwoRegisters Or m n) pc s fits below r = into r n (or_lt 32 (reg n s) (reg m s) (reg_below r n) (reg_below r m))
executes (TwoRegisters Sub m n) pc s fits below r = into r n (low32_below _)
executes (TwoRegisters Subc m n) pc s fits below r = into_t r n _ (low32_below _)
executes (TwoRegisters Subv m n) pc s fits below r = into_t r n _ (low32_below _)
executes (TwoRegisters SwapB m n) pc s fits below r = into r n (swap_b_below (reg_below r m))
executes (TwoRegisters SwapW m n) pc s fits below r = into r n (xtrct_below (reg m s) (reg_below r m))
executes (TwoRegisters Xor m n) pc s fits below r = into r n (xor_lt 32 (reg n s) (reg m s) (reg_below r n) (reg_below r m))
executes (TwoRegisters Xtrct m n) pc s fits below r = into r n (xtrct_below (reg m s) (reg_below r n))
executes (Compare CmpEq m n) pc s fits below r = onward (t_changed r _)
executes (Compare CmpGe m n) pc s fits below r = onward (t_changed r _)
executes (Compare CmpGt m n) pc s fits below r = onward (t_changed r _)
executes (Compare CmpHi m n) pc s fits below r = onward (t_changed r _)
executes (Compare CmpHs m n) pc s fits below r = onward (t_changed r _)
executes (Compare CmpStr m n) pc s fits below r = onward (t_changed r _)
executes (Compare Tst m n) pc s fits below r = onward (t_changed r _)
executes (Divide Div0s m n) pc s fits below r = onward (mqt_changed r _ _ _)
executes (Divide Div1 m n) pc s fits below r =
    onward (mqt_changed (register_changed r n (div1_below (reg m s) (reg n s) (m_bit s) (q_bit s) (t_bit s))) _ _ _)
executes (Multiply DmulsL m n) pc s fits below r = multiplies r (dmuls_l_below (reg m s) (reg n s))
executes (Multiply DmuluL m n) pc s fits below r = multiplies r (dmulu_l_below (reg_below r m) (reg_below r n))
executes (Multiply MulL m n) pc s fits below r = multiplies_low r (low32_below _)
executes (Multiply MulsW m n) pc s fits below r =
    multiplies_low r (low_bits_below 32 (signed_word (reg n s) *ℤ signed_word (reg m s)))
executes (Multiply MuluW m n) pc s fits below r = multiplies_low r (mulu_w_below (reg m s) (reg n s))
executes (MultiplyAdd MacL m n) pc s fits below r =
    loads r 4 _ (λ b _. loads r 4 _ (λ a _. multiplies (stepped (stepped r 4 n) 4 m) (mac_l_below (mac s) (s_bit s) a b)))
executes (MultiplyAdd MacW m n) pc s fits below r =
    loads r 2 _
    (λ b _.
    loads r 2 _
    (λ a _.
    multiplies (stepped (stepped r 2 n) 2 m)
    (mac_w_below (record { mach = r.control.mach; macl = r.control.macl }) (s_bit s) a b)))
executes (Immediate AddImm i n) pc s fits below r = into r n (low32_below _)
executes (Immediate MovImm i n) pc s fits below r = into r n (low_bits_below 32 (signed_byte i))
executes (ImmediateR0 AndImm i) pc s fits below r = into r 0 (and_below i (reg_below r 0))
executes (ImmediateR0 CmpEqImm i) pc s fits below r = onward (t_changed r _)
executes (ImmediateR0 OrImm i) pc s fits below r = into r 0 (or_lt 32 (reg 0 s) i (reg_below r 0) (omega (arith, ltb→lt i 256 fits)))
executes (ImmediateR0 TstImm i) pc s fits below r = onward (t_changed r _)
executes (ImmediateR0 XorImm i) pc s fits below r = into r 0 (xor_lt 32 (reg 0 s) i (reg_below r 0) (omega (arith, ltb→lt i 256 fits)))
executes (ImmediateByte AndB i) pc s fits below r = loads r 1 _ (λ v _. stores r _ _ _ (λ t q. q))
executes (ImmediateByte OrB i) pc s fits below r = loads r 1 _ (λ v _. stores r _ _ _ (λ t q. q))
executes (ImmediateByte TstB i) pc s fits below r = loads r 1 _ (λ v _. onward (t_changed r _))
executes (ImmediateByte XorB i) pc s fits below r = loads r 1 _ (λ v _. stores r _ _ _ (λ t q. q))
executes (Load size address n) pc s fits below r =
    rw (load size address n pc s) (loads r _ _ (λ v small. into r n (extended_below size v small)))
executes (LoadIncrement size m n) pc s fits below r =
    rw (load_increment size m n pc s) (loads r _ _ (λ v small. into (stepped r (bytes size) m) n (extended_below size v small)))
executes (Store size m address) pc s fits below r = rw (store size m address pc s) (stores r _ _ _ (λ t q. q))
executes (StoreDecrement size m n) pc s fits below r =
    rw (store_decrement size m n pc s)
    (stores r (bytes size) _ (reg m s) {f = with_reg n (minus (reg n s) (bytes size))}
    (λ t q. register_changed q n (low32_below _)))
executes (Relative MovW d n) pc s fits below r = loads r 2 _ (λ v small. into r n (extended_below Word v small))
executes (Relative MovL d n) pc s fits below r = loads r 4 _ (λ v small. into r n small)
executes (Relative Mova d n) pc s fits below r = into r n (low32_below _)
executes (LoadControl register m) pc s fits below r =
    rw (load_control register m pc s) (onward (control_changed r (loaded_control r.control register (reg m s) (reg_below r m))))
executes (LoadControlLong register m) pc s fits below r =
    rw (load_control_long register m pc s)
    (loads r 4 _ (λ v small. onward (control_changed (stepped r 4 m) (loaded_control r.control register v small))))
executes (StoreControl register n) pc s fits below r = rw (store_control register n pc s) (into r n (stored_control r.control register))
executes (StoreControlLong register n) pc s fits below r =
    rw (store_control_long register n pc s)
    (stores r 4 _ (control_register register s.control) {f = with_reg n (minus (reg n s) 4)}
    (λ t q. register_changed q n (low32_below _)))
executes (TasB n) pc s fits below r =
    loads r 1 _
    (λ v _. stores r 1 _ (bit_or v 0x80) {f = changed (with_t (truth (eqb v 0)))} (λ t q. t_changed q _))
executes (BranchIf Bf d) pc s fits below r = branches_if r (eqb (t_bit s) 0) (Jump _) (low32_below _)
executes (BranchIf BfS d) pc s fits below r = branches_if r (eqb (t_bit s) 0) (Delay _) (low32_below _)
executes (BranchIf Bt d) pc s fits below r = branches_if r (eqb (t_bit s) 1) (Jump _) (low32_below _)
executes (BranchIf BtS d) pc s fits below r = branches_if r (eqb (t_bit s) 1) (Delay _) (low32_below _)
executes (Branch Bra d) pc s fits below r = delays (low32_below _) r
executes (Branch Bsr d) pc s fits below r = delays (low32_below _) (returns r below)
executes (BranchTo Braf m) pc s fits below r = delays (low32_below _) r
executes (BranchTo Bsrf m) pc s fits below r = delays (low32_below _) (returns r below)
executes (BranchTo Jmp m) pc s fits below r = delays (reg_below r m) r
executes (BranchTo Jsr m) pc s fits below r = delays (reg_below r m) (returns r below)
executes (Return Rte) pc s fits below r =
    loads r 4 _
    (λ p small.
    loads r 4 _ (λ v _. delays small (control_changed (stepped r 8 15) (sr_changed r.control (masked_again v)))))
executes (Return Rts) pc s fits below r = delays r.control.pr r
executes (Trapa i) pc s fits below r = record { after = r; target = tt }

pub attempt_in_range :
    (slot : Bool) (x : Meaning) (pc : ℕ) (s : State) → T (within x) → pc < 2 ^ 32 → StateInRange s →
    EffectInRange (attempted slot x pc s)
unfolding attempted
attempt_in_range slot x pc s fits below r = go (slot && rewrites_pc x)
  where
    go : (test : Bool) → EffectInRange (cond test (leads Illegal s) (execute x pc s))
    go true = record { after = r; target = tt }
    go false = executes x pc s fits below r
