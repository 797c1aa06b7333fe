-- What each instruction does, in the order of document 000 (Table 5.9), one clause an instruction, under its section of chapter 6, its
-- line and its operation in short. The state s is that before the instruction: Rm, Rn, T and the rest are its values there. `pc` is what the
-- instruction takes for PC in its own address arithmetic, as the step gives it (Step.antt); the machine's PC, which stands behind an
-- arrow, the step alone sets, and no clause reads or writes the state's. An operand is in brackets: (Rm) is what stands at the address Rm.
-- Where the line has R0 and the clause n or m, the row of the code table gives that number as 0.
use Rattle.std.specs.Prelude.{Bool, ◌&&◌, cond, ℕ, ◌+◌, ◌*◌, ◌^◌, eqb}
use Rattle.std.specs.Int.Bits.{bit_and, bit_or, bit_xor}
use Rattle.numbers.specs.Numbers.{truth, low32}
use Rattle.arithmetic.specs.Addresses.{branch, far, relative_word, relative_long}
use Rattle.arithmetic.specs.Compares.{cmp_eq, cmp_ge, cmp_gt, cmp_hi, cmp_hs, cmp_pl, cmp_pz, cmp_str}
use Rattle.arithmetic.specs.Logic.{complement, tst}
use Rattle.arithmetic.specs.Sums.{add, addc, addv, dt, neg, negc, sub, subc, subv}
use Rattle.arithmetic.specs.Transfers.{exts_b, exts_w, extu_b, extu_w, movt, swap_b, swap_w, xtrct}
use Rattle.divide.specs.Divide.{div0s, div0u, div1}
use Rattle.multiply.specs.Multiply.{dmuls_l, dmulu_l, mul_l, muls_w, mulu_w, mac_l, mac_w}
use Rattle.shifts.specs.Shifts.{rotcl, rotcr, rotl, rotr, shar, shll, shll2, shll8, shll16, shlr, shlr2, shlr8, shlr16}
use Rattle.decoder.specs.Slot.{rewrites_pc}
use Rattle.decoder.specs.declared.meaning.Meaning.{Meaning}
use Rattle.decoder.specs.declared.meaning.Meaning.TheVariants.{Undefined, NoOperand, OneRegister, CompareZero, TwoRegisters, Compare, Divide, Multiply, MultiplyAdd, Immediate, ImmediateR0, ImmediateByte, Load, LoadIncrement, Store, StoreDecrement, Relative, LoadControl, LoadControlLong, StoreControl, StoreControlLong, TasB, BranchIf, Branch, BranchTo, Return, Trapa}
use Rattle.decoder.specs.declared.meaning.NoOperand.TheVariants.{Clrmac, Clrt, Div0u, Nop, Sett, Sleep}
use Rattle.decoder.specs.declared.meaning.OneRegister.TheVariants.{Dt, Movt, Rotcl, Rotcr, Rotl, Rotr, Shal, Shar, Shll, Shll2, Shll8, Shll16, Shlr, Shlr2, Shlr8, Shlr16}
use Rattle.decoder.specs.declared.meaning.CompareZero.TheVariants.{CmpPl, CmpPz}
use Rattle.decoder.specs.declared.meaning.TwoRegisters.TheVariants.{Add, Addc, Addv, And, ExtsB, ExtsW, ExtuB, ExtuW, Mov, Neg, Negc, Not, Or, Sub, Subc, Subv, SwapB, SwapW, Xor, Xtrct}
use Rattle.decoder.specs.declared.meaning.Compare.TheVariants.{CmpEq, CmpGe, CmpGt, CmpHi, CmpHs, CmpStr, Tst}
use Rattle.decoder.specs.declared.meaning.Divide.TheVariants.{Div0s, Div1}
use Rattle.decoder.specs.declared.meaning.Multiply.TheVariants.{DmulsL, DmuluL, MulL, MulsW, MuluW}
use Rattle.decoder.specs.declared.meaning.MultiplyAdd.TheVariants.{MacL, MacW}
use Rattle.decoder.specs.declared.meaning.Immediate.TheVariants.{AddImm, MovImm}
use Rattle.decoder.specs.declared.meaning.ImmediateR0.TheVariants.{AndImm, CmpEqImm, OrImm, TstImm, XorImm}
use Rattle.decoder.specs.declared.meaning.ImmediateByte.TheVariants.{AndB, OrB, TstB, XorB}
use Rattle.decoder.specs.declared.meaning.Size.TheVariants.{Byte, Word, Long}
use Rattle.decoder.specs.declared.meaning.Address.TheVariants.{Indirect, Indexed, Displacement, GbrDisplacement}
use Rattle.decoder.specs.declared.meaning.Relative.TheVariants.{MovW, MovL, Mova}
use Rattle.decoder.specs.declared.meaning.ControlRegister.TheVariants.{Gbr, Sr, Vbr, Mach, Macl, Pr}
use Rattle.decoder.specs.declared.meaning.BranchIf.TheVariants.{Bf, BfS, Bt, BtS}
use Rattle.decoder.specs.declared.meaning.Branch.TheVariants.{Bra, Bsr}
use Rattle.decoder.specs.declared.meaning.BranchTo.TheVariants.{Braf, Bsrf, Jmp, Jsr}
use Rattle.decoder.specs.declared.meaning.Return.TheVariants.{Rte, Rts}
use Rattle.instructions.specs.declared.control.Flow.TheVariants.{Next, Jump, Delay, Sleep as Sleeps, Trap, Illegal}
use Rattle.instructions.specs.State.{State, reg, with_reg, changed, t_bit, s_bit, q_bit, m_bit, mac, masked, with_sr, with_t, with_mqt, with_gbr, with_vbr, with_pr, with_mac, with_mach, with_macl}
use Rattle.instructions.specs.Shapes.{Effect, leads, next, gives, gives_t, tells, gives_macl, gives_mac, loading, storing, storing_and, incremented, minus}

unfoldable pub execute : Meaning → (pc : ℕ) → State → Effect
-- 6.2 ADD #imm,Rn: Rn + imm, sign-extended -> Rn
execute (Immediate AddImm i n) pc s = gives n (add (exts_b i) (reg n s)) s
-- 6.2 ADD Rm,Rn: Rn + Rm -> Rn
execute (TwoRegisters Add m n) pc s = gives n (add (reg m s) (reg n s)) s
-- 6.3 ADDC Rm,Rn: Rn + Rm + T -> Rn, carry -> T
execute (TwoRegisters Addc m n) pc s = gives_t n (addc (reg m s) (reg n s) (t_bit s)) s
-- 6.4 ADDV Rm,Rn: Rn + Rm -> Rn, overflow -> T
execute (TwoRegisters Addv m n) pc s = gives_t n (addv (reg m s) (reg n s)) s
-- 6.5 AND #imm,R0: R0 & imm -> R0
execute (ImmediateR0 AndImm i) pc s = gives 0 (bit_and (reg 0 s) i) s
-- 6.5 AND Rm,Rn: Rn & Rm -> Rn
execute (TwoRegisters And m n) pc s = gives n (bit_and (reg n s) (reg m s)) s
-- 6.5 AND.B #imm,@(R0,GBR): (R0 + GBR) & imm -> (R0 + GBR)
execute (ImmediateByte AndB i) pc s =
    let a = low32 (s.control.gbr + reg 0 s) in
    loading 1 a s (λ v. storing 1 a (bit_and v i) s)
-- 6.6 BF label: T = 0: PC + disp x 2 -> PC, no slot; T = 1: nothing
execute (BranchIf Bf d) pc s = leads (cond (eqb (t_bit s) 0) (Jump (branch (2 ^ 7) pc d)) Next) s
-- 6.7 BF/S label: T = 0: PC + disp x 2 -> PC after the slot; T = 1: nothing
execute (BranchIf BfS d) pc s = leads (cond (eqb (t_bit s) 0) (Delay (branch (2 ^ 7) pc d)) Next) s
-- 6.8 BRA label: PC + disp x 2 -> PC after the slot
execute (Branch Bra d) pc s = leads (Delay (branch (2 ^ 11) pc d)) s
-- 6.9 BRAF Rm: PC + Rm -> PC after the slot
execute (BranchTo Braf m) pc s = leads (Delay (far pc (reg m s))) s
-- 6.10 BSR label: PC -> PR, PC + disp x 2 -> PC after the slot
execute (Branch Bsr d) pc s = leads (Delay (branch (2 ^ 11) pc d)) (changed (with_pr pc) s)
-- 6.11 BSRF Rm: PC -> PR, PC + Rm -> PC after the slot
execute (BranchTo Bsrf m) pc s = leads (Delay (far pc (reg m s))) (changed (with_pr pc) s)
-- 6.12 BT label: T = 1: PC + disp x 2 -> PC, no slot; T = 0: nothing
execute (BranchIf Bt d) pc s = leads (cond (eqb (t_bit s) 1) (Jump (branch (2 ^ 7) pc d)) Next) s
-- 6.13 BT/S label: T = 1: PC + disp x 2 -> PC after the slot; T = 0: nothing
execute (BranchIf BtS d) pc s = leads (cond (eqb (t_bit s) 1) (Delay (branch (2 ^ 7) pc d)) Next) s
-- 6.14 CLRMAC: 0 -> MACH, MACL
execute (NoOperand Clrmac) pc s = next (changed (with_mac 0 0) s)
-- 6.15 CLRT: 0 -> T
execute (NoOperand Clrt) pc s = tells 0 s
-- 6.16 CMP/EQ #imm,R0: R0 = imm, sign-extended -> T
execute (ImmediateR0 CmpEqImm i) pc s = tells (cmp_eq (exts_b i) (reg 0 s)) s
-- 6.16 CMP/EQ Rm,Rn: Rn = Rm -> T
execute (Compare CmpEq m n) pc s = tells (cmp_eq (reg m s) (reg n s)) s
-- 6.16 CMP/GE Rm,Rn: Rn >= Rm, signed -> T
execute (Compare CmpGe m n) pc s = tells (cmp_ge (reg m s) (reg n s)) s
-- 6.16 CMP/GT Rm,Rn: Rn > Rm, signed -> T
execute (Compare CmpGt m n) pc s = tells (cmp_gt (reg m s) (reg n s)) s
-- 6.16 CMP/HI Rm,Rn: Rn > Rm, unsigned -> T
execute (Compare CmpHi m n) pc s = tells (cmp_hi (reg m s) (reg n s)) s
-- 6.16 CMP/HS Rm,Rn: Rn >= Rm, unsigned -> T
execute (Compare CmpHs m n) pc s = tells (cmp_hs (reg m s) (reg n s)) s
-- 6.16 CMP/PL Rn: Rn > 0, signed -> T
execute (CompareZero CmpPl n) pc s = tells (cmp_pl (reg n s)) s
-- 6.16 CMP/PZ Rn: Rn >= 0, signed -> T
execute (CompareZero CmpPz n) pc s = tells (cmp_pz (reg n s)) s
-- 6.16 CMP/STR Rm,Rn: a byte of Rn = the byte of Rm in its place -> T
execute (Compare CmpStr m n) pc s = tells (cmp_str (reg m s) (reg n s)) s
-- 6.17 DIV0S Rm,Rn: top bit of Rn -> Q, top bit of Rm -> M, M ^ Q -> T
execute (Divide Div0s m n) pc s =
    let b = div0s (reg m s) (reg n s) in
    next (changed (with_mqt b.m b.q b.t) s)
-- 6.18 DIV0U: 0 -> M, Q, T
execute (NoOperand Div0u) pc s = next (changed (with_mqt div0u.m div0u.q div0u.t) s)
-- 6.19 DIV1 Rm,Rn: one step of Rn / Rm -> Rn, Q, T; M stays
execute (Divide Div1 m n) pc s =
    let d = div1 (reg m s) (reg n s) (m_bit s) (q_bit s) (t_bit s) in
    next (changed (with_mqt (m_bit s) d.q d.t) (with_reg n d.value s))
-- 6.20 DMULS.L Rm,Rn: Rn x Rm, signed -> MACH, MACL
execute (Multiply DmulsL m n) pc s = gives_mac (dmuls_l (reg m s) (reg n s)) s
-- 6.21 DMULU.L Rm,Rn: Rn x Rm, unsigned -> MACH, MACL
execute (Multiply DmuluL m n) pc s = gives_mac (dmulu_l (reg m s) (reg n s)) s
-- 6.22 DT Rn: Rn - 1 -> Rn, Rn = 0 -> T
execute (OneRegister Dt n) pc s = gives_t n (dt (reg n s)) s
-- 6.23 EXTS.B Rm,Rn: low byte of Rm -> sign extension -> Rn
execute (TwoRegisters ExtsB m n) pc s = gives n (exts_b (reg m s)) s
-- 6.23 EXTS.W Rm,Rn: low word of Rm -> sign extension -> Rn
execute (TwoRegisters ExtsW m n) pc s = gives n (exts_w (reg m s)) s
-- 6.24 EXTU.B Rm,Rn: low byte of Rm -> zero extension -> Rn
execute (TwoRegisters ExtuB m n) pc s = gives n (extu_b (reg m s)) s
-- 6.24 EXTU.W Rm,Rn: low word of Rm -> zero extension -> Rn
execute (TwoRegisters ExtuW m n) pc s = gives n (extu_w (reg m s)) s
-- 6.25 JMP @Rm: Rm -> PC after the slot
execute (BranchTo Jmp m) pc s = leads (Delay (reg m s)) s
-- 6.26 JSR @Rm: PC -> PR, Rm -> PC after the slot
execute (BranchTo Jsr m) pc s = leads (Delay (reg m s)) (changed (with_pr pc) s)
-- 6.27 LDC Rm,GBR: Rm -> GBR
execute (LoadControl Gbr m) pc s = next (changed (with_gbr (reg m s)) s)
-- 6.27 LDC Rm,SR: Rm & H'3F3 -> SR
execute (LoadControl Sr m) pc s = next (changed (with_sr (masked (reg m s))) s)
-- 6.27 LDC Rm,VBR: Rm -> VBR
execute (LoadControl Vbr m) pc s = next (changed (with_vbr (reg m s)) s)
-- 6.27 LDC.L @Rm+,GBR: (Rm) -> GBR, Rm + 4 -> Rm
execute (LoadControlLong Gbr m) pc s =
    loading 4 (reg m s) s (λ v. next (changed (with_gbr v) (incremented 4 m s)))
-- 6.27 LDC.L @Rm+,SR: (Rm) & H'3F3 -> SR, Rm + 4 -> Rm
execute (LoadControlLong Sr m) pc s =
    loading 4 (reg m s) s (λ v. next (changed (with_sr (masked v)) (incremented 4 m s)))
-- 6.27 LDC.L @Rm+,VBR: (Rm) -> VBR, Rm + 4 -> Rm
execute (LoadControlLong Vbr m) pc s =
    loading 4 (reg m s) s (λ v. next (changed (with_vbr v) (incremented 4 m s)))
-- 6.28 LDS Rm,MACH: Rm -> MACH
execute (LoadControl Mach m) pc s = next (changed (with_mach (reg m s)) s)
-- 6.28 LDS Rm,MACL: Rm -> MACL
execute (LoadControl Macl m) pc s = next (changed (with_macl (reg m s)) s)
-- 6.28 LDS Rm,PR: Rm -> PR
execute (LoadControl Pr m) pc s = next (changed (with_pr (reg m s)) s)
-- 6.28 LDS.L @Rm+,MACH: (Rm) -> MACH, Rm + 4 -> Rm
execute (LoadControlLong Mach m) pc s =
    loading 4 (reg m s) s (λ v. next (changed (with_mach v) (incremented 4 m s)))
-- 6.28 LDS.L @Rm+,MACL: (Rm) -> MACL, Rm + 4 -> Rm
execute (LoadControlLong Macl m) pc s =
    loading 4 (reg m s) s (λ v. next (changed (with_macl v) (incremented 4 m s)))
-- 6.28 LDS.L @Rm+,PR: (Rm) -> PR, Rm + 4 -> Rm
execute (LoadControlLong Pr m) pc s =
    loading 4 (reg m s) s (λ v. next (changed (with_pr v) (incremented 4 m s)))
-- 6.29 MAC.L @Rm+,@Rn+: (Rn) x (Rm), signed, + MAC -> MAC, held if S = 1; @Rn is read first, Rn + 4 -> Rn, then @Rm, Rm + 4 -> Rm
execute (MultiplyAdd MacL m n) pc s =
    let rn_stepped = incremented 4 n s in
    loading 4 (reg n s) s
    (λ b. loading 4 (reg m rn_stepped) s (λ a. gives_mac (mac_l (mac s) (s_bit s) a b) (incremented 4 m rn_stepped)))
-- 6.31 MAC.W @Rm+,@Rn+: (Rn) x (Rm), signed, + MAC -> MAC, held if S = 1; @Rn is read first, Rn + 2 -> Rn, then @Rm, Rm + 2 -> Rm
execute (MultiplyAdd MacW m n) pc s =
    let rn_stepped = incremented 2 n s in
    loading 2 (reg n s) s
    (λ b. loading 2 (reg m rn_stepped) s (λ a. gives_mac (mac_w (mac s) (s_bit s) a b) (incremented 2 m rn_stepped)))
-- 6.33 MOV #imm,Rn: imm -> sign extension -> Rn
execute (Immediate MovImm i n) pc s = gives n (exts_b i) s
-- 6.32 MOV Rm,Rn: Rm -> Rn
execute (TwoRegisters Mov m n) pc s = gives n (reg m s) s
-- 6.34 MOV.B @(disp,GBR),R0: (disp + GBR) -> sign extension -> R0
execute (Load Byte (GbrDisplacement d) n) pc s =
    loading 1 (low32 (s.control.gbr + d)) s (λ v. gives n (exts_b v) s)
-- 6.35 MOV.B @(disp,Rm),R0: (disp + Rm) -> sign extension -> R0
execute (Load Byte (Displacement d m) n) pc s =
    loading 1 (low32 (reg m s + d)) s (λ v. gives n (exts_b v) s)
-- 6.32 MOV.B @(R0,Rm),Rn: (R0 + Rm) -> sign extension -> Rn
execute (Load Byte (Indexed m) n) pc s =
    loading 1 (low32 (reg 0 s + reg m s)) s (λ v. gives n (exts_b v) s)
-- 6.32 MOV.B @Rm+,Rn: (Rm) -> sign extension -> Rn, Rm + 1 -> Rm; for m = n the loaded value stays
execute (LoadIncrement Byte m n) pc s =
    loading 1 (reg m s) s (λ v. gives n (exts_b v) (incremented 1 m s))
-- 6.32 MOV.B @Rm,Rn: (Rm) -> sign extension -> Rn
execute (Load Byte (Indirect m) n) pc s =
    loading 1 (reg m s) s (λ v. gives n (exts_b v) s)
-- 6.34 MOV.B R0,@(disp,GBR): R0 -> (disp + GBR)
execute (Store Byte m (GbrDisplacement d)) pc s = storing 1 (low32 (s.control.gbr + d)) (reg m s) s
-- 6.35 MOV.B R0,@(disp,Rn): R0 -> (disp + Rn)
execute (Store Byte m (Displacement d n)) pc s = storing 1 (low32 (reg n s + d)) (reg m s) s
-- 6.32 MOV.B Rm,@(R0,Rn): Rm -> (R0 + Rn)
execute (Store Byte m (Indexed n)) pc s = storing 1 (low32 (reg 0 s + reg n s)) (reg m s) s
-- 6.32 MOV.B Rm,@-Rn: Rn - 1 -> Rn, Rm -> (Rn); for m = n the old value is stored
execute (StoreDecrement Byte m n) pc s =
    let a = minus (reg n s) 1 in
    storing_and 1 a (reg m s) s (with_reg n a)
-- 6.32 MOV.B Rm,@Rn: Rm -> (Rn)
execute (Store Byte m (Indirect n)) pc s = storing 1 (reg n s) (reg m s) s
-- 6.34 MOV.L @(disp,GBR),R0: (disp x 4 + GBR) -> R0
execute (Load Long (GbrDisplacement d) n) pc s =
    loading 4 (low32 (s.control.gbr + d * 4)) s (λ v. gives n v s)
-- 6.33 MOV.L @(disp,PC),Rn: ((PC & H'FFFFFFFC) + disp x 4) -> Rn
execute (Relative MovL d n) pc s = loading 4 (relative_long pc d) s (λ v. gives n v s)
-- 6.35 MOV.L @(disp,Rm),Rn: (disp x 4 + Rm) -> Rn
execute (Load Long (Displacement d m) n) pc s =
    loading 4 (low32 (reg m s + d * 4)) s (λ v. gives n v s)
-- 6.32 MOV.L @(R0,Rm),Rn: (R0 + Rm) -> Rn
execute (Load Long (Indexed m) n) pc s =
    loading 4 (low32 (reg 0 s + reg m s)) s (λ v. gives n v s)
-- 6.32 MOV.L @Rm+,Rn: (Rm) -> Rn, Rm + 4 -> Rm; for m = n the loaded value stays
execute (LoadIncrement Long m n) pc s =
    loading 4 (reg m s) s (λ v. gives n v (incremented 4 m s))
-- 6.32 MOV.L @Rm,Rn: (Rm) -> Rn
execute (Load Long (Indirect m) n) pc s =
    loading 4 (reg m s) s (λ v. gives n v s)
-- 6.34 MOV.L R0,@(disp,GBR): R0 -> (disp x 4 + GBR)
execute (Store Long m (GbrDisplacement d)) pc s = storing 4 (low32 (s.control.gbr + d * 4)) (reg m s) s
-- 6.35 MOV.L Rm,@(disp,Rn): Rm -> (disp x 4 + Rn)
execute (Store Long m (Displacement d n)) pc s = storing 4 (low32 (reg n s + d * 4)) (reg m s) s
-- 6.32 MOV.L Rm,@(R0,Rn): Rm -> (R0 + Rn)
execute (Store Long m (Indexed n)) pc s = storing 4 (low32 (reg 0 s + reg n s)) (reg m s) s
-- 6.32 MOV.L Rm,@-Rn: Rn - 4 -> Rn, Rm -> (Rn); for m = n the old value is stored
execute (StoreDecrement Long m n) pc s =
    let a = minus (reg n s) 4 in
    storing_and 4 a (reg m s) s (with_reg n a)
-- 6.32 MOV.L Rm,@Rn: Rm -> (Rn)
execute (Store Long m (Indirect n)) pc s = storing 4 (reg n s) (reg m s) s
-- 6.34 MOV.W @(disp,GBR),R0: (disp x 2 + GBR) -> sign extension -> R0
execute (Load Word (GbrDisplacement d) n) pc s =
    loading 2 (low32 (s.control.gbr + d * 2)) s (λ v. gives n (exts_w v) s)
-- 6.33 MOV.W @(disp,PC),Rn: (PC + disp x 2) -> sign extension -> Rn
execute (Relative MovW d n) pc s = loading 2 (relative_word pc d) s (λ v. gives n (exts_w v) s)
-- 6.35 MOV.W @(disp,Rm),R0: (disp x 2 + Rm) -> sign extension -> R0
execute (Load Word (Displacement d m) n) pc s =
    loading 2 (low32 (reg m s + d * 2)) s (λ v. gives n (exts_w v) s)
-- 6.32 MOV.W @(R0,Rm),Rn: (R0 + Rm) -> sign extension -> Rn
execute (Load Word (Indexed m) n) pc s =
    loading 2 (low32 (reg 0 s + reg m s)) s (λ v. gives n (exts_w v) s)
-- 6.32 MOV.W @Rm+,Rn: (Rm) -> sign extension -> Rn, Rm + 2 -> Rm; for m = n the loaded value stays
execute (LoadIncrement Word m n) pc s =
    loading 2 (reg m s) s (λ v. gives n (exts_w v) (incremented 2 m s))
-- 6.32 MOV.W @Rm,Rn: (Rm) -> sign extension -> Rn
execute (Load Word (Indirect m) n) pc s =
    loading 2 (reg m s) s (λ v. gives n (exts_w v) s)
-- 6.34 MOV.W R0,@(disp,GBR): R0 -> (disp x 2 + GBR)
execute (Store Word m (GbrDisplacement d)) pc s = storing 2 (low32 (s.control.gbr + d * 2)) (reg m s) s
-- 6.35 MOV.W R0,@(disp,Rn): R0 -> (disp x 2 + Rn)
execute (Store Word m (Displacement d n)) pc s = storing 2 (low32 (reg n s + d * 2)) (reg m s) s
-- 6.32 MOV.W Rm,@(R0,Rn): Rm -> (R0 + Rn)
execute (Store Word m (Indexed n)) pc s = storing 2 (low32 (reg 0 s + reg n s)) (reg m s) s
-- 6.32 MOV.W Rm,@-Rn: Rn - 2 -> Rn, Rm -> (Rn); for m = n the old value is stored
execute (StoreDecrement Word m n) pc s =
    let a = minus (reg n s) 2 in
    storing_and 2 a (reg m s) s (with_reg n a)
-- 6.32 MOV.W Rm,@Rn: Rm -> (Rn)
execute (Store Word m (Indirect n)) pc s = storing 2 (reg n s) (reg m s) s
-- 6.36 MOVA @(disp,PC),R0: (PC & H'FFFFFFFC) + disp x 4 -> R0
execute (Relative Mova d n) pc s = gives n (relative_long pc d) s
-- 6.37 MOVT Rn: T -> Rn
execute (OneRegister Movt n) pc s = gives n (movt (t_bit s)) s
-- 6.38 MUL.L Rm,Rn: Rn x Rm -> MACL
execute (Multiply MulL m n) pc s = gives_macl (mul_l (reg m s) (reg n s)) s
-- 6.39 MULS.W Rm,Rn: low words of Rn x Rm, signed -> MACL
execute (Multiply MulsW m n) pc s = gives_macl (muls_w (reg m s) (reg n s)) s
-- 6.40 MULU.W Rm,Rn: low words of Rn x Rm, unsigned -> MACL
execute (Multiply MuluW m n) pc s = gives_macl (mulu_w (reg m s) (reg n s)) s
-- 6.41 NEG Rm,Rn: 0 - Rm -> Rn
execute (TwoRegisters Neg m n) pc s = gives n (neg (reg m s)) s
-- 6.42 NEGC Rm,Rn: 0 - Rm - T -> Rn, borrow -> T
execute (TwoRegisters Negc m n) pc s = gives_t n (negc (reg m s) (t_bit s)) s
-- 6.43 NOP: nothing
execute (NoOperand Nop) pc s = next s
-- 6.44 NOT Rm,Rn: ~Rm -> Rn
execute (TwoRegisters Not m n) pc s = gives n (complement (reg m s)) s
-- 6.45 OR #imm,R0: R0 | imm -> R0
execute (ImmediateR0 OrImm i) pc s = gives 0 (bit_or (reg 0 s) i) s
-- 6.45 OR Rm,Rn: Rn | Rm -> Rn
execute (TwoRegisters Or m n) pc s = gives n (bit_or (reg n s) (reg m s)) s
-- 6.45 OR.B #imm,@(R0,GBR): (R0 + GBR) | imm -> (R0 + GBR)
execute (ImmediateByte OrB i) pc s =
    let a = low32 (s.control.gbr + reg 0 s) in
    loading 1 a s (λ v. storing 1 a (bit_or v i) s)
-- 6.46 ROTCL Rn: T <- Rn <- T
execute (OneRegister Rotcl n) pc s = gives_t n (rotcl (reg n s) (t_bit s)) s
-- 6.47 ROTCR Rn: T -> Rn -> T
execute (OneRegister Rotcr n) pc s = gives_t n (rotcr (reg n s) (t_bit s)) s
-- 6.48 ROTL Rn: T <- Rn <- top bit
execute (OneRegister Rotl n) pc s = gives_t n (rotl (reg n s)) s
-- 6.49 ROTR Rn: bottom bit -> Rn -> T
execute (OneRegister Rotr n) pc s = gives_t n (rotr (reg n s)) s
-- 6.50 RTE: (R15) -> PC after the slot, (R15 + 4) & H'3F3 -> SR, R15 + 8 -> R15
execute (Return Rte) pc s =
    loading 4 (reg 15 s) s
    (λ p. loading 4 (low32 (reg 15 s + 4)) s (λ v. leads (Delay p) (changed (with_sr (masked v)) (incremented 8 15 s))))
-- 6.51 RTS: PR -> PC after the slot
execute (Return Rts) pc s = leads (Delay s.control.pr) s
-- 6.52 SETT: 1 -> T
execute (NoOperand Sett) pc s = tells 1 s
-- 6.53 SHAL Rn: T <- Rn <- 0
execute (OneRegister Shal n) pc s = gives_t n (shll (reg n s)) s
-- 6.54 SHAR Rn: top bit -> Rn -> T
execute (OneRegister Shar n) pc s = gives_t n (shar (reg n s)) s
-- 6.55 SHLL Rn: T <- Rn <- 0
execute (OneRegister Shll n) pc s = gives_t n (shll (reg n s)) s
-- 6.56 SHLL2 Rn: Rn << 2 -> Rn
execute (OneRegister Shll2 n) pc s = gives n (shll2 (reg n s)) s
-- 6.56 SHLL8 Rn: Rn << 8 -> Rn
execute (OneRegister Shll8 n) pc s = gives n (shll8 (reg n s)) s
-- 6.56 SHLL16 Rn: Rn << 16 -> Rn
execute (OneRegister Shll16 n) pc s = gives n (shll16 (reg n s)) s
-- 6.57 SHLR Rn: 0 -> Rn -> T
execute (OneRegister Shlr n) pc s = gives_t n (shlr (reg n s)) s
-- 6.58 SHLR2 Rn: Rn >> 2 -> Rn
execute (OneRegister Shlr2 n) pc s = gives n (shlr2 (reg n s)) s
-- 6.58 SHLR8 Rn: Rn >> 8 -> Rn
execute (OneRegister Shlr8 n) pc s = gives n (shlr8 (reg n s)) s
-- 6.58 SHLR16 Rn: Rn >> 16 -> Rn
execute (OneRegister Shlr16 n) pc s = gives n (shlr16 (reg n s)) s
-- 6.59 SLEEP: sleep
execute (NoOperand Sleep) pc s = leads Sleeps s
-- 6.60 STC GBR,Rn: GBR -> Rn
execute (StoreControl Gbr n) pc s = gives n s.control.gbr s
-- 6.60 STC SR,Rn: SR -> Rn
execute (StoreControl Sr n) pc s = gives n s.control.sr s
-- 6.60 STC VBR,Rn: VBR -> Rn
execute (StoreControl Vbr n) pc s = gives n s.control.vbr s
-- 6.60 STC.L GBR,@-Rn: Rn - 4 -> Rn, GBR -> (Rn)
execute (StoreControlLong Gbr n) pc s =
    let a = minus (reg n s) 4 in
    storing_and 4 a s.control.gbr s (with_reg n a)
-- 6.60 STC.L SR,@-Rn: Rn - 4 -> Rn, SR -> (Rn)
execute (StoreControlLong Sr n) pc s =
    let a = minus (reg n s) 4 in
    storing_and 4 a s.control.sr s (with_reg n a)
-- 6.60 STC.L VBR,@-Rn: Rn - 4 -> Rn, VBR -> (Rn)
execute (StoreControlLong Vbr n) pc s =
    let a = minus (reg n s) 4 in
    storing_and 4 a s.control.vbr s (with_reg n a)
-- 6.61 STS MACH,Rn: MACH -> Rn
execute (StoreControl Mach n) pc s = gives n s.control.mach s
-- 6.61 STS MACL,Rn: MACL -> Rn
execute (StoreControl Macl n) pc s = gives n s.control.macl s
-- 6.61 STS PR,Rn: PR -> Rn
execute (StoreControl Pr n) pc s = gives n s.control.pr s
-- 6.61 STS.L MACH,@-Rn: Rn - 4 -> Rn, MACH -> (Rn)
execute (StoreControlLong Mach n) pc s =
    let a = minus (reg n s) 4 in
    storing_and 4 a s.control.mach s (with_reg n a)
-- 6.61 STS.L MACL,@-Rn: Rn - 4 -> Rn, MACL -> (Rn)
execute (StoreControlLong Macl n) pc s =
    let a = minus (reg n s) 4 in
    storing_and 4 a s.control.macl s (with_reg n a)
-- 6.61 STS.L PR,@-Rn: Rn - 4 -> Rn, PR -> (Rn)
execute (StoreControlLong Pr n) pc s =
    let a = minus (reg n s) 4 in
    storing_and 4 a s.control.pr s (with_reg n a)
-- 6.62 SUB Rm,Rn: Rn - Rm -> Rn
execute (TwoRegisters Sub m n) pc s = gives n (sub (reg m s) (reg n s)) s
-- 6.63 SUBC Rm,Rn: Rn - Rm - T -> Rn, borrow -> T
execute (TwoRegisters Subc m n) pc s = gives_t n (subc (reg m s) (reg n s) (t_bit s)) s
-- 6.64 SUBV Rm,Rn: Rn - Rm -> Rn, underflow -> T
execute (TwoRegisters Subv m n) pc s = gives_t n (subv (reg m s) (reg n s)) s
-- 6.65 SWAP.B Rm,Rn: Rm with its two low bytes exchanged -> Rn
execute (TwoRegisters SwapB m n) pc s = gives n (swap_b (reg m s)) s
-- 6.65 SWAP.W Rm,Rn: Rm with its two words exchanged -> Rn
execute (TwoRegisters SwapW m n) pc s = gives n (swap_w (reg m s)) s
-- 6.66 TAS.B @Rn: (Rn) = 0 -> T, (Rn) | H'80 -> (Rn)
execute (TasB n) pc s =
    loading 1 (reg n s) s (λ v. storing_and 1 (reg n s) (bit_or v 0x80) s (changed (with_t (truth (eqb v 0)))))
-- 6.67 TRAPA #imm: an exception with vector number imm
execute (Trapa i) pc s = leads (Trap i) s
-- 6.68 TST #imm,R0: R0 & imm = 0 -> T
execute (ImmediateR0 TstImm i) pc s = tells (tst i (reg 0 s)) s
-- 6.68 TST Rm,Rn: Rn & Rm = 0 -> T
execute (Compare Tst m n) pc s = tells (tst (reg m s) (reg n s)) s
-- 6.68 TST.B #imm,@(R0,GBR): (R0 + GBR) & imm = 0 -> T
execute (ImmediateByte TstB i) pc s = loading 1 (low32 (s.control.gbr + reg 0 s)) s (λ v. tells (tst i v) s)
-- 6.69 XOR #imm,R0: R0 ^ imm -> R0
execute (ImmediateR0 XorImm i) pc s = gives 0 (bit_xor (reg 0 s) i) s
-- 6.69 XOR Rm,Rn: Rn ^ Rm -> Rn
execute (TwoRegisters Xor m n) pc s = gives n (bit_xor (reg n s) (reg m s)) s
-- 6.69 XOR.B #imm,@(R0,GBR): (R0 + GBR) ^ imm -> (R0 + GBR)
execute (ImmediateByte XorB i) pc s =
    let a = low32 (s.control.gbr + reg 0 s) in
    loading 1 a s (λ v. storing 1 a (bit_xor v i) s)
-- 6.70 XTRCT Rm,Rn: middle 32 bits of Rm:Rn -> Rn
execute (TwoRegisters Xtrct m n) pc s = gives n (xtrct (reg m s) (reg n s)) s
-- A word that the code table lacks.
execute Undefined pc s = leads Illegal s

-- Document 01, "One step", item 3: in a slot, an instruction that rewrites the PC is as illegal as an undefined word.
unfoldable pub attempted : (slot : Bool) → Meaning → (pc : ℕ) → State → Effect
attempted slot x pc s = cond (slot && rewrites_pc x) (leads Illegal s) (execute x pc s)
