-- What no instruction does: one that raises an exception changes nothing, only one that rewrites the PC leads elsewhere than on, and none
-- writes the PC itself, which the step settles, or changes how long the memory is.
-- Assumes nothing.
use mathlib.Core.Path.{◌≡◌, refl}
use mathlib.Core.Bool.{Bool, true, false, ◌&&◌, cond}
use Prim.Native.Nat.{ℕ}
use lib.ListN.{length}
use Rattle.memory.specs.Access.{accessible, loaded}
use Rattle.memory.proofs.Bytes.{length_written}
use Rattle.decoder.specs.Slot.{rewrites_pc}
use Rattle.decoder.specs.declared.meaning.Meaning.{Meaning}
use Rattle.decoder.specs.declared.meaning.Meaning.TheVariants.{Undefined, NoOperand, OneRegister, CompareZero, TwoRegisters, Compare, Divide, Multiply, MultiplyAdd, Immediate, ImmediateR0, ImmediateByte, Load, LoadIncrement, Store, StoreDecrement, Relative, LoadControl, LoadControlLong, StoreControl, StoreControlLong, TasB, BranchIf, Branch, BranchTo, Return, Trapa}
use Rattle.decoder.specs.declared.meaning.NoOperand.TheVariants.{Clrmac, Clrt, Div0u, Nop, Sett, Sleep}
use Rattle.decoder.specs.declared.meaning.OneRegister.TheVariants.{Dt, Movt, Rotcl, Rotcr, Rotl, Rotr, Shal, Shar, Shll, Shll2, Shll8, Shll16, Shlr, Shlr2, Shlr8, Shlr16}
use Rattle.decoder.specs.declared.meaning.CompareZero.TheVariants.{CmpPl, CmpPz}
use Rattle.decoder.specs.declared.meaning.TwoRegisters.TheVariants.{Add, Addc, Addv, And, ExtsB, ExtsW, ExtuB, ExtuW, Mov, Neg, Negc, Not, Or, Sub, Subc, Subv, SwapB, SwapW, Xor, Xtrct}
use Rattle.decoder.specs.declared.meaning.Compare.TheVariants.{CmpEq, CmpGe, CmpGt, CmpHi, CmpHs, CmpStr, Tst}
use Rattle.decoder.specs.declared.meaning.ControlRegister.{ControlRegister}
use Rattle.decoder.specs.declared.meaning.ControlRegister.TheVariants.{Gbr, Sr, Vbr, Mach, Macl, Pr}
use Rattle.decoder.specs.declared.meaning.Divide.TheVariants.{Div0s, Div1}
use Rattle.decoder.specs.declared.meaning.Multiply.TheVariants.{DmulsL, DmuluL, MulL, MulsW, MuluW}
use Rattle.decoder.specs.declared.meaning.MultiplyAdd.TheVariants.{MacL, MacW}
use Rattle.decoder.specs.declared.meaning.Immediate.TheVariants.{AddImm, MovImm}
use Rattle.decoder.specs.declared.meaning.ImmediateR0.TheVariants.{AndImm, CmpEqImm, OrImm, TstImm, XorImm}
use Rattle.decoder.specs.declared.meaning.ImmediateByte.TheVariants.{AndB, OrB, TstB, XorB}
use Rattle.decoder.specs.declared.meaning.Relative.TheVariants.{MovW, MovL, Mova}
use Rattle.decoder.specs.declared.meaning.BranchIf.TheVariants.{Bf, BfS, Bt, BtS}
use Rattle.decoder.specs.declared.meaning.Branch.TheVariants.{Bra, Bsr}
use Rattle.decoder.specs.declared.meaning.BranchTo.TheVariants.{Braf, Bsrf, Jmp, Jsr}
use Rattle.decoder.specs.declared.meaning.Return.TheVariants.{Rte, Rts}
use Rattle.instructions.specs.Execute.{attempted, execute}
use Rattle.instructions.specs.Shapes.{Effect, leads, next, loading}
use Rattle.instructions.specs.Promises.{with_control_register}
use Rattle.instructions.specs.State.{State}
use Rattle.instructions.specs.declared.control.Flow.{Flow}
use Rattle.instructions.specs.declared.control.Flow.TheVariants.{Next, Jump, Delay, Sleep as Sleeps, Trap, Fault, Illegal}
use Rattle.instructions.specs.declared.control.Control.{Control}
use Rattle.instructions.proofs.Cases.{by_load, by_store}
use Rattle.instructions.proofs.Families.{load, store, load_increment, store_decrement, load_control, load_control_long, store_control, store_control_long}

-- A flow that raises an exception leaves the state as it was.
abbrev pub Unchanged : Flow → State → State → Type 0
Unchanged Next before after = Unit
Unchanged (Jump target) before after = Unit
Unchanged (Delay target) before after = Unit
Unchanged Sleeps before after = Unit
Unchanged (Trap number) before after = after ≡ before
Unchanged Fault before after = after ≡ before
Unchanged Illegal before after = after ≡ before

-- Neither a jump, nor a delayed branch, nor a trap.
abbrev pub Straight : Flow → Type 0
Straight Next = Unit
Straight (Jump target) = ⊥
Straight (Delay target) = ⊥
Straight Sleeps = Unit
Straight (Trap number) = ⊥
Straight Fault = Unit
Straight Illegal = Unit

-- What is asked of a flow, by whether the instruction rewrites the PC.
abbrev Allowed : Bool → Flow → Type 0
Allowed true flow = Unit
Allowed false flow = Straight flow

record Orderly (rewrites : Bool) (s : State) (e : Effect) : Type 0 where
  unchanged : Unchanged e.flow s e.after
  allowed : Allowed rewrites e.flow
  pc : e.after.control.pc ≡ s.control.pc
  size : length e.after.memory ≡ length s.memory

on : {s t : State} → t.control.pc ≡ s.control.pc → length t.memory ≡ length s.memory → Orderly false s (next t)
on same size = record { unchanged = tt; allowed = tt; pc = same; size = size }

-- Where the state stays as it is, any flow will do for an instruction that rewrites the PC.
stays : (flow : Flow) (s : State) → Unchanged flow s s
stays Next s = tt
stays (Jump target) s = tt
stays (Delay target) s = tt
stays Sleeps s = tt
stays (Trap number) s = refl
stays Fault s = refl
stays Illegal s = refl

branches : (flow : Flow) (s : State) → Orderly true s (leads flow s)
branches flow s = record { unchanged = stays flow s; allowed = tt; pc = refl; size = refl }

calls :
    {s t : State} (target : ℕ) → t.control.pc ≡ s.control.pc → length t.memory ≡ length s.memory →
    Orderly true s (leads (Delay target) t)
calls target same size = record { unchanged = tt; allowed = tt; pc = same; size = size }

straight_fault : (rewrites : Bool) → Allowed rewrites Fault
straight_fault true = tt
straight_fault false = tt

faults : (rewrites : Bool) (s : State) → Orderly rewrites s (leads Fault s)
faults rewrites s = record { unchanged = refl; allowed = straight_fault rewrites; pc = refl; size = refl }

loads :
    {rewrites : Bool} {s : State} (k a : ℕ) {f : ℕ → Effect} → ((v : ℕ) → Orderly rewrites s (f v)) →
    Orderly rewrites s (loading k a s f)
loads {rewrites} {s} k a {f} follows =
    by_load (Orderly rewrites s) s (faults rewrites s) (loaded k s.memory a) f (λ v given. follows v)

stores :
    {s : State} (k a : ℕ) {e : Effect} → Orderly false s e → Orderly false s (cond (accessible k s.memory a) e (leads Fault s))
stores {s} k a {e} done = by_store (Orderly false s) s (faults false s) (accessible k s.memory a) e done

register_keeps_pc : (x : ControlRegister) (v : ℕ) (c : Control) → (with_control_register x v c).pc ≡ c.pc
register_keeps_pc Gbr v c = refl
register_keeps_pc Sr v c = refl
register_keeps_pc Vbr v c = refl
register_keeps_pc Mach v c = refl
register_keeps_pc Macl v c = refl
register_keeps_pc Pr v c = refl

orderly : (x : Meaning) (pc : ℕ) (s : State) → Orderly (rewrites_pc x) s (execute x pc s)
unfolding execute
orderly Undefined pc s = record { unchanged = refl; allowed = tt; pc = refl; size = refl }
orderly (NoOperand Clrmac) pc s = on refl refl
orderly (NoOperand Clrt) pc s = on refl refl
orderly (NoOperand Div0u) pc s = on refl refl
orderly (NoOperand Nop) pc s = on refl refl
orderly (NoOperand Sett) pc s = on refl refl
orderly (NoOperand Sleep) pc s = record { unchanged = tt; allowed = tt; pc = refl; size = refl }
orderly (OneRegister Dt n) pc s = on refl refl
orderly (OneRegister Movt n) pc s = on refl refl
orderly (OneRegister Rotcl n) pc s = on refl refl
orderly (OneRegister Rotcr n) pc s = on refl refl
orderly (OneRegister Rotl n) pc s = on refl refl
orderly (OneRegister Rotr n) pc s = on refl refl
orderly (OneRegister Shal n) pc s = on refl refl
orderly (OneRegister Shar n) pc s = on refl refl
orderly (OneRegister Shll n) pc s = on refl refl
orderly (OneRegister Shll2 n) pc s = on refl refl
orderly (OneRegister Shll8 n) pc s = on refl refl
orderly (OneRegister Shll16 n) pc s = on refl refl
orderly (OneRegister Shlr n) pc s = on refl refl
orderly (OneRegister Shlr2 n) pc s = on refl refl
orderly (OneRegister Shlr8 n) pc s = on refl refl
orderly (OneRegister Shlr16 n) pc s = on refl refl
orderly (CompareZero CmpPl n) pc s = on refl refl
orderly (CompareZero CmpPz n) pc s = on refl refl
orderly (TwoRegisters Add m n) pc s = on refl refl
orderly (TwoRegisters Addc m n) pc s = on refl refl
orderly (TwoRegisters Addv m n) pc s = on refl refl
orderly (TwoRegisters And m n) pc s = on refl refl
orderly (TwoRegisters ExtsB m n) pc s = on refl refl
orderly (TwoRegisters ExtsW m n) pc s = on refl refl
orderly (TwoRegisters ExtuB m n) pc s = on refl refl
orderly (TwoRegisters ExtuW m n) pc s = on refl refl
orderly (TwoRegisters Mov m n) pc s = on refl refl
orderly (TwoRegisters Neg m n) pc s = on refl refl
orderly (TwoRegisters Negc m n) pc s = on refl refl
orderly (TwoRegisters Not m n) pc s = on refl refl
orderly (TwoRegisters Or m n) pc s = on refl refl
orderly (TwoRegisters Sub m n) pc s = on refl refl
orderly (TwoRegisters Subc m n) pc s = on refl refl
orderly (TwoRegisters Subv m n) pc s = on refl refl
orderly (TwoRegisters SwapB m n) pc s = on refl refl
orderly (TwoRegisters SwapW m n) pc s = on refl refl
orderly (TwoRegisters Xor m n) pc s = on refl refl
orderly (TwoRegisters Xtrct m n) pc s = on refl refl
orderly (Compare CmpEq m n) pc s = on refl refl
orderly (Compare CmpGe m n) pc s = on refl refl
orderly (Compare CmpGt m n) pc s = on refl refl
orderly (Compare CmpHi m n) pc s = on refl refl
orderly (Compare CmpHs m n) pc s = on refl refl
orderly (Compare CmpStr m n) pc s = on refl refl
orderly (Compare Tst m n) pc s = on refl refl
orderly (Divide Div0s m n) pc s = on refl refl
orderly (Divide Div1 m n) pc s = on refl refl
orderly (Multiply DmulsL m n) pc s = on refl refl
orderly (Multiply DmuluL m n) pc s = on refl refl
orderly (Multiply MulL m n) pc s = on refl refl
orderly (Multiply MulsW m n) pc s = on refl refl
orderly (Multiply MuluW m n) pc s = on refl refl
orderly (MultiplyAdd MacL m n) pc s = loads _ _ (λ b. loads _ _ (λ a. on refl refl))
orderly (MultiplyAdd MacW m n) pc s = loads _ _ (λ b. loads _ _ (λ a. on refl refl))
orderly (Immediate AddImm i n) pc s = on refl refl
orderly (Immediate MovImm i n) pc s = on refl refl
orderly (ImmediateR0 AndImm i) pc s = on refl refl
orderly (ImmediateR0 CmpEqImm i) pc s = on refl refl
orderly (ImmediateR0 OrImm i) pc s = on refl refl
orderly (ImmediateR0 TstImm i) pc s = on refl refl
orderly (ImmediateR0 XorImm i) pc s = on refl refl
orderly (ImmediateByte AndB i) pc s = loads _ _ (λ v. stores _ _ (on refl (length_written _ _ _ _)))
orderly (ImmediateByte OrB i) pc s = loads _ _ (λ v. stores _ _ (on refl (length_written _ _ _ _)))
orderly (ImmediateByte TstB i) pc s = loads _ _ (λ v. on refl refl)
orderly (ImmediateByte XorB i) pc s = loads _ _ (λ v. stores _ _ (on refl (length_written _ _ _ _)))
orderly (Load size address n) pc s = rw (load size address n pc s) (loads _ _ (λ v. on refl refl))
orderly (LoadIncrement size m n) pc s = rw (load_increment size m n pc s) (loads _ _ (λ v. on refl refl))
orderly (Store size m address) pc s = rw (store size m address pc s) (stores _ _ (on refl (length_written _ _ _ _)))
orderly (StoreDecrement size m n) pc s = rw (store_decrement size m n pc s) (stores _ _ (on refl (length_written _ _ _ _)))
orderly (Relative MovW d n) pc s = loads _ _ (λ v. on refl refl)
orderly (Relative MovL d n) pc s = loads _ _ (λ v. on refl refl)
orderly (Relative Mova d n) pc s = on refl refl
orderly (LoadControl register m) pc s = rw (load_control register m pc s) (on (register_keeps_pc register _ s.control) refl)
orderly (LoadControlLong register m) pc s =
    rw (load_control_long register m pc s) (loads _ _ (λ v. on (register_keeps_pc register v s.control) refl))
orderly (StoreControl register n) pc s = rw (store_control register n pc s) (on refl refl)
orderly (StoreControlLong register n) pc s = rw (store_control_long register n pc s) (stores _ _ (on refl (length_written _ _ _ _)))
orderly (TasB n) pc s = loads _ _ (λ v. stores _ _ (on refl (length_written _ _ _ _)))
orderly (BranchIf Bf d) pc s = branches _ s
orderly (BranchIf BfS d) pc s = branches _ s
orderly (BranchIf Bt d) pc s = branches _ s
orderly (BranchIf BtS d) pc s = branches _ s
orderly (Branch Bra d) pc s = branches _ s
orderly (Branch Bsr d) pc s = calls _ refl refl
orderly (BranchTo Braf m) pc s = branches _ s
orderly (BranchTo Bsrf m) pc s = calls _ refl refl
orderly (BranchTo Jmp m) pc s = branches _ s
orderly (BranchTo Jsr m) pc s = calls _ refl refl
orderly (Return Rte) pc s = loads _ _ (λ p. loads _ _ (λ v. calls p refl refl))
orderly (Return Rts) pc s = branches _ s
orderly (Trapa i) pc s = branches _ s

-- In a slot an instruction that rewrites the PC is not executed.
attempts_with :
    (slot rewrites : Bool) (s : State) (e : Effect) → Orderly rewrites s e →
    Orderly (cond slot false rewrites) s (cond (slot && rewrites) (leads Illegal s) e)
attempts_with true true s e done = record { unchanged = refl; allowed = tt; pc = refl; size = refl }
attempts_with true false s e done = done
attempts_with false true s e done = done
attempts_with false false s e done = done

attempts : (slot : Bool) (x : Meaning) (pc : ℕ) (s : State) → Orderly (cond slot false (rewrites_pc x)) s (attempted slot x pc s)
unfolding attempted
attempts slot x pc s = attempts_with slot (rewrites_pc x) s (execute x pc s) (orderly x pc s)

-- An instruction that raises an exception changes nothing.
pub raising_changes_nothing : (x : Meaning) (pc : ℕ) (s : State) → Unchanged (execute x pc s).flow s (execute x pc s).after
raising_changes_nothing x pc s = (orderly x pc s).unchanged

pub attempt_changes_nothing :
    (slot : Bool) (x : Meaning) (pc : ℕ) (s : State) → Unchanged (attempted slot x pc s).flow s (attempted slot x pc s).after
attempt_changes_nothing slot x pc s = (attempts slot x pc s).unchanged

-- In a slot nothing jumps, delays or traps.
pub no_branch_in_slot : (x : Meaning) (pc : ℕ) (s : State) → Straight (attempted true x pc s).flow
no_branch_in_slot x pc s = (attempts true x pc s).allowed

pub attempt_keeps_pc : (slot : Bool) (x : Meaning) (pc : ℕ) (s : State) → (attempted slot x pc s).after.control.pc ≡ s.control.pc
attempt_keeps_pc slot x pc s = (attempts slot x pc s).pc

-- No instruction changes how long the memory is.
pub attempt_keeps_length :
    (slot : Bool) (x : Meaning) (pc : ℕ) (s : State) → length (attempted slot x pc s).after.memory ≡ length s.memory
attempt_keeps_length slot x pc s = (attempts slot x pc s).size
