-- The SH-2 code table of document 000, Table 5.9, in its order: the code, the instruction, and what it means.
-- Scan faults are mended by document 004's list and Table A.50; docs/DECISIONS.md lists them.
use Rattle.std.specs.Prelude.{List, [], ◌∷◌}
use Prim.Native.String.{String}
use Rattle.decoder.specs.Pattern.{Fields}
use Rattle.decoder.specs.declared.meaning.Meaning.{Meaning}
use Rattle.decoder.specs.declared.meaning.Meaning.TheVariants.{NoOperand, OneRegister, CompareZero, TwoRegisters, Compare, Divide, Multiply, MultiplyAdd, Immediate, ImmediateR0, ImmediateByte, Load, LoadIncrement, Store, StoreDecrement, Relative, LoadControl, LoadControlLong, StoreControl, StoreControlLong, TasB, BranchIf, Branch, BranchTo, Return, Trapa}
use Rattle.decoder.specs.declared.meaning.NoOperand.TheVariants.{Clrmac, Clrt, Div0u, Nop, Sett, Sleep}
use Rattle.decoder.specs.declared.meaning.OneRegister.TheVariants.{Dt, Movt, Rotcl, Rotcr, Rotl, Rotr, Shal, Shar, Shll, Shll2, Shll8, Shll16, Shlr, Shlr2, Shlr8, Shlr16}
use Rattle.decoder.specs.declared.meaning.CompareZero.TheVariants.{CmpPl, CmpPz}
use Rattle.decoder.specs.declared.meaning.TwoRegisters.TheVariants.{Add, Addc, Addv, And, ExtsB, ExtsW, ExtuB, ExtuW, Mov, Neg, Negc, Not, Or, Sub, Subc, Subv, SwapB, SwapW, Xor, Xtrct}
use Rattle.decoder.specs.declared.meaning.Compare.TheVariants.{CmpEq, CmpGe, CmpGt, CmpHi, CmpHs, CmpStr, Tst}
use Rattle.decoder.specs.declared.meaning.Divide.TheVariants.{Div0s, Div1}
use Rattle.decoder.specs.declared.meaning.Multiply.TheVariants.{DmulsL, DmuluL, MulL, MulsW, MuluW}
use Rattle.decoder.specs.declared.meaning.MultiplyAdd.TheVariants.{MacL, MacW}
use Rattle.decoder.specs.declared.meaning.Immediate.TheVariants.{AddImm, MovImm}
use Rattle.decoder.specs.declared.meaning.ImmediateR0.TheVariants.{AndImm, CmpEqImm, OrImm, TstImm, XorImm}
use Rattle.decoder.specs.declared.meaning.ImmediateByte.TheVariants.{AndB, OrB, TstB, XorB}
use Rattle.decoder.specs.declared.meaning.Size.TheVariants.{Byte, Word, Long}
use Rattle.decoder.specs.declared.meaning.Address.TheVariants.{Indirect, Indexed, Displacement, GbrDisplacement}
use Rattle.decoder.specs.declared.meaning.Relative.TheVariants.{MovW, MovL, Mova}
use Rattle.decoder.specs.declared.meaning.ControlRegister.TheVariants.{Gbr, Sr, Vbr, Mach, Macl, Pr}
use Rattle.decoder.specs.declared.meaning.BranchIf.TheVariants.{Bf, BfS, Bt, BtS}
use Rattle.decoder.specs.declared.meaning.Branch.TheVariants.{Bra, Bsr}
use Rattle.decoder.specs.declared.meaning.BranchTo.TheVariants.{Braf, Bsrf, Jmp, Jsr}
use Rattle.decoder.specs.declared.meaning.Return.TheVariants.{Rte, Rts}

pub record Row : Type 0 where
  pub pattern : String
  pub name : String
  pub means : Fields → Meaning

abbrev row : String → String → (Fields → Meaning) → Row
row p s f = record { pattern = p; name = s; means = f }

unfoldable pub table : List Row
table =
    row "0111nnnniiiiiiii" "ADD #imm,Rn" (λ f. Immediate AddImm f.i f.n) ∷
    row "0011nnnnmmmm1100" "ADD Rm,Rn" (λ f. TwoRegisters Add f.m f.n) ∷
    row "0011nnnnmmmm1110" "ADDC Rm,Rn" (λ f. TwoRegisters Addc f.m f.n) ∷
    row "0011nnnnmmmm1111" "ADDV Rm,Rn" (λ f. TwoRegisters Addv f.m f.n) ∷
    row "11001001iiiiiiii" "AND #imm,R0" (λ f. ImmediateR0 AndImm f.i) ∷
    row "0010nnnnmmmm1001" "AND Rm,Rn" (λ f. TwoRegisters And f.m f.n) ∷
    row "11001101iiiiiiii" "AND.B #imm,@(R0,GBR)" (λ f. ImmediateByte AndB f.i) ∷
    row "10001011dddddddd" "BF label" (λ f. BranchIf Bf f.d) ∷
    row "10001111dddddddd" "BF/S label" (λ f. BranchIf BfS f.d) ∷
    row "1010dddddddddddd" "BRA label" (λ f. Branch Bra f.d) ∷
    row "0000mmmm00100011" "BRAF Rm" (λ f. BranchTo Braf f.m) ∷
    row "1011dddddddddddd" "BSR label" (λ f. Branch Bsr f.d) ∷
    row "0000mmmm00000011" "BSRF Rm" (λ f. BranchTo Bsrf f.m) ∷
    row "10001001dddddddd" "BT label" (λ f. BranchIf Bt f.d) ∷
    row "10001101dddddddd" "BT/S label" (λ f. BranchIf BtS f.d) ∷
    row "0000000000101000" "CLRMAC" (λ _. NoOperand Clrmac) ∷
    row "0000000000001000" "CLRT" (λ _. NoOperand Clrt) ∷
    row "10001000iiiiiiii" "CMP/EQ #imm,R0" (λ f. ImmediateR0 CmpEqImm f.i) ∷
    row "0011nnnnmmmm0000" "CMP/EQ Rm,Rn" (λ f. Compare CmpEq f.m f.n) ∷
    row "0011nnnnmmmm0011" "CMP/GE Rm,Rn" (λ f. Compare CmpGe f.m f.n) ∷
    row "0011nnnnmmmm0111" "CMP/GT Rm,Rn" (λ f. Compare CmpGt f.m f.n) ∷
    row "0011nnnnmmmm0110" "CMP/HI Rm,Rn" (λ f. Compare CmpHi f.m f.n) ∷
    row "0011nnnnmmmm0010" "CMP/HS Rm,Rn" (λ f. Compare CmpHs f.m f.n) ∷
    row "0100nnnn00010101" "CMP/PL Rn" (λ f. CompareZero CmpPl f.n) ∷
    row "0100nnnn00010001" "CMP/PZ Rn" (λ f. CompareZero CmpPz f.n) ∷
    row "0010nnnnmmmm1100" "CMP/STR Rm,Rn" (λ f. Compare CmpStr f.m f.n) ∷
    row "0010nnnnmmmm0111" "DIV0S Rm,Rn" (λ f. Divide Div0s f.m f.n) ∷
    row "0000000000011001" "DIV0U" (λ _. NoOperand Div0u) ∷
    row "0011nnnnmmmm0100" "DIV1 Rm,Rn" (λ f. Divide Div1 f.m f.n) ∷
    row "0011nnnnmmmm1101" "DMULS.L Rm,Rn" (λ f. Multiply DmulsL f.m f.n) ∷
    row "0011nnnnmmmm0101" "DMULU.L Rm,Rn" (λ f. Multiply DmuluL f.m f.n) ∷
    row "0100nnnn00010000" "DT Rn" (λ f. OneRegister Dt f.n) ∷
    row "0110nnnnmmmm1110" "EXTS.B Rm,Rn" (λ f. TwoRegisters ExtsB f.m f.n) ∷
    row "0110nnnnmmmm1111" "EXTS.W Rm,Rn" (λ f. TwoRegisters ExtsW f.m f.n) ∷
    row "0110nnnnmmmm1100" "EXTU.B Rm,Rn" (λ f. TwoRegisters ExtuB f.m f.n) ∷
    row "0110nnnnmmmm1101" "EXTU.W Rm,Rn" (λ f. TwoRegisters ExtuW f.m f.n) ∷
    row "0100mmmm00101011" "JMP @Rm" (λ f. BranchTo Jmp f.m) ∷
    row "0100mmmm00001011" "JSR @Rm" (λ f. BranchTo Jsr f.m) ∷
    row "0100mmmm00011110" "LDC Rm,GBR" (λ f. LoadControl Gbr f.m) ∷
    row "0100mmmm00001110" "LDC Rm,SR" (λ f. LoadControl Sr f.m) ∷
    row "0100mmmm00101110" "LDC Rm,VBR" (λ f. LoadControl Vbr f.m) ∷
    row "0100mmmm00010111" "LDC.L @Rm+,GBR" (λ f. LoadControlLong Gbr f.m) ∷
    row "0100mmmm00000111" "LDC.L @Rm+,SR" (λ f. LoadControlLong Sr f.m) ∷
    row "0100mmmm00100111" "LDC.L @Rm+,VBR" (λ f. LoadControlLong Vbr f.m) ∷
    row "0100mmmm00001010" "LDS Rm,MACH" (λ f. LoadControl Mach f.m) ∷
    row "0100mmmm00011010" "LDS Rm,MACL" (λ f. LoadControl Macl f.m) ∷
    row "0100mmmm00101010" "LDS Rm,PR" (λ f. LoadControl Pr f.m) ∷
    row "0100mmmm00000110" "LDS.L @Rm+,MACH" (λ f. LoadControlLong Mach f.m) ∷
    row "0100mmmm00010110" "LDS.L @Rm+,MACL" (λ f. LoadControlLong Macl f.m) ∷
    row "0100mmmm00100110" "LDS.L @Rm+,PR" (λ f. LoadControlLong Pr f.m) ∷
    row "0000nnnnmmmm1111" "MAC.L @Rm+,@Rn+" (λ f. MultiplyAdd MacL f.m f.n) ∷
    row "0100nnnnmmmm1111" "MAC.W @Rm+,@Rn+" (λ f. MultiplyAdd MacW f.m f.n) ∷
    row "1110nnnniiiiiiii" "MOV #imm,Rn" (λ f. Immediate MovImm f.i f.n) ∷
    row "0110nnnnmmmm0011" "MOV Rm,Rn" (λ f. TwoRegisters Mov f.m f.n) ∷
    row "11000100dddddddd" "MOV.B @(disp,GBR),R0" (λ f. Load Byte (GbrDisplacement f.d) 0) ∷
    row "10000100mmmmdddd" "MOV.B @(disp,Rm),R0" (λ f. Load Byte (Displacement f.d f.m) 0) ∷
    row "0000nnnnmmmm1100" "MOV.B @(R0,Rm),Rn" (λ f. Load Byte (Indexed f.m) f.n) ∷
    row "0110nnnnmmmm0100" "MOV.B @Rm+,Rn" (λ f. LoadIncrement Byte f.m f.n) ∷
    row "0110nnnnmmmm0000" "MOV.B @Rm,Rn" (λ f. Load Byte (Indirect f.m) f.n) ∷
    row "11000000dddddddd" "MOV.B R0,@(disp,GBR)" (λ f. Store Byte 0 (GbrDisplacement f.d)) ∷
    row "10000000nnnndddd" "MOV.B R0,@(disp,Rn)" (λ f. Store Byte 0 (Displacement f.d f.n)) ∷
    row "0000nnnnmmmm0100" "MOV.B Rm,@(R0,Rn)" (λ f. Store Byte f.m (Indexed f.n)) ∷
    row "0010nnnnmmmm0100" "MOV.B Rm,@-Rn" (λ f. StoreDecrement Byte f.m f.n) ∷
    row "0010nnnnmmmm0000" "MOV.B Rm,@Rn" (λ f. Store Byte f.m (Indirect f.n)) ∷
    row "11000110dddddddd" "MOV.L @(disp,GBR),R0" (λ f. Load Long (GbrDisplacement f.d) 0) ∷
    row "1101nnnndddddddd" "MOV.L @(disp,PC),Rn" (λ f. Relative MovL f.d f.n) ∷
    row "0101nnnnmmmmdddd" "MOV.L @(disp,Rm),Rn" (λ f. Load Long (Displacement f.d f.m) f.n) ∷
    row "0000nnnnmmmm1110" "MOV.L @(R0,Rm),Rn" (λ f. Load Long (Indexed f.m) f.n) ∷
    row "0110nnnnmmmm0110" "MOV.L @Rm+,Rn" (λ f. LoadIncrement Long f.m f.n) ∷
    row "0110nnnnmmmm0010" "MOV.L @Rm,Rn" (λ f. Load Long (Indirect f.m) f.n) ∷
    row "11000010dddddddd" "MOV.L R0,@(disp,GBR)" (λ f. Store Long 0 (GbrDisplacement f.d)) ∷
    row "0001nnnnmmmmdddd" "MOV.L Rm,@(disp,Rn)" (λ f. Store Long f.m (Displacement f.d f.n)) ∷
    row "0000nnnnmmmm0110" "MOV.L Rm,@(R0,Rn)" (λ f. Store Long f.m (Indexed f.n)) ∷
    row "0010nnnnmmmm0110" "MOV.L Rm,@-Rn" (λ f. StoreDecrement Long f.m f.n) ∷
    row "0010nnnnmmmm0010" "MOV.L Rm,@Rn" (λ f. Store Long f.m (Indirect f.n)) ∷
    row "11000101dddddddd" "MOV.W @(disp,GBR),R0" (λ f. Load Word (GbrDisplacement f.d) 0) ∷
    row "1001nnnndddddddd" "MOV.W @(disp,PC),Rn" (λ f. Relative MovW f.d f.n) ∷
    row "10000101mmmmdddd" "MOV.W @(disp,Rm),R0" (λ f. Load Word (Displacement f.d f.m) 0) ∷
    row "0000nnnnmmmm1101" "MOV.W @(R0,Rm),Rn" (λ f. Load Word (Indexed f.m) f.n) ∷
    row "0110nnnnmmmm0101" "MOV.W @Rm+,Rn" (λ f. LoadIncrement Word f.m f.n) ∷
    row "0110nnnnmmmm0001" "MOV.W @Rm,Rn" (λ f. Load Word (Indirect f.m) f.n) ∷
    row "11000001dddddddd" "MOV.W R0,@(disp,GBR)" (λ f. Store Word 0 (GbrDisplacement f.d)) ∷
    row "10000001nnnndddd" "MOV.W R0,@(disp,Rn)" (λ f. Store Word 0 (Displacement f.d f.n)) ∷
    row "0000nnnnmmmm0101" "MOV.W Rm,@(R0,Rn)" (λ f. Store Word f.m (Indexed f.n)) ∷
    row "0010nnnnmmmm0101" "MOV.W Rm,@-Rn" (λ f. StoreDecrement Word f.m f.n) ∷
    row "0010nnnnmmmm0001" "MOV.W Rm,@Rn" (λ f. Store Word f.m (Indirect f.n)) ∷
    row "11000111dddddddd" "MOVA @(disp,PC),R0" (λ f. Relative Mova f.d 0) ∷
    row "0000nnnn00101001" "MOVT Rn" (λ f. OneRegister Movt f.n) ∷
    row "0000nnnnmmmm0111" "MUL.L Rm,Rn" (λ f. Multiply MulL f.m f.n) ∷
    row "0010nnnnmmmm1111" "MULS.W Rm,Rn" (λ f. Multiply MulsW f.m f.n) ∷
    row "0010nnnnmmmm1110" "MULU.W Rm,Rn" (λ f. Multiply MuluW f.m f.n) ∷
    row "0110nnnnmmmm1011" "NEG Rm,Rn" (λ f. TwoRegisters Neg f.m f.n) ∷
    row "0110nnnnmmmm1010" "NEGC Rm,Rn" (λ f. TwoRegisters Negc f.m f.n) ∷
    row "0000000000001001" "NOP" (λ _. NoOperand Nop) ∷
    row "0110nnnnmmmm0111" "NOT Rm,Rn" (λ f. TwoRegisters Not f.m f.n) ∷
    row "11001011iiiiiiii" "OR #imm,R0" (λ f. ImmediateR0 OrImm f.i) ∷
    row "0010nnnnmmmm1011" "OR Rm,Rn" (λ f. TwoRegisters Or f.m f.n) ∷
    row "11001111iiiiiiii" "OR.B #imm,@(R0,GBR)" (λ f. ImmediateByte OrB f.i) ∷
    row "0100nnnn00100100" "ROTCL Rn" (λ f. OneRegister Rotcl f.n) ∷
    row "0100nnnn00100101" "ROTCR Rn" (λ f. OneRegister Rotcr f.n) ∷
    row "0100nnnn00000100" "ROTL Rn" (λ f. OneRegister Rotl f.n) ∷
    row "0100nnnn00000101" "ROTR Rn" (λ f. OneRegister Rotr f.n) ∷
    row "0000000000101011" "RTE" (λ _. Return Rte) ∷
    row "0000000000001011" "RTS" (λ _. Return Rts) ∷
    row "0000000000011000" "SETT" (λ _. NoOperand Sett) ∷
    row "0100nnnn00100000" "SHAL Rn" (λ f. OneRegister Shal f.n) ∷
    row "0100nnnn00100001" "SHAR Rn" (λ f. OneRegister Shar f.n) ∷
    row "0100nnnn00000000" "SHLL Rn" (λ f. OneRegister Shll f.n) ∷
    row "0100nnnn00001000" "SHLL2 Rn" (λ f. OneRegister Shll2 f.n) ∷
    row "0100nnnn00011000" "SHLL8 Rn" (λ f. OneRegister Shll8 f.n) ∷
    row "0100nnnn00101000" "SHLL16 Rn" (λ f. OneRegister Shll16 f.n) ∷
    row "0100nnnn00000001" "SHLR Rn" (λ f. OneRegister Shlr f.n) ∷
    row "0100nnnn00001001" "SHLR2 Rn" (λ f. OneRegister Shlr2 f.n) ∷
    row "0100nnnn00011001" "SHLR8 Rn" (λ f. OneRegister Shlr8 f.n) ∷
    row "0100nnnn00101001" "SHLR16 Rn" (λ f. OneRegister Shlr16 f.n) ∷
    row "0000000000011011" "SLEEP" (λ _. NoOperand Sleep) ∷
    row "0000nnnn00010010" "STC GBR,Rn" (λ f. StoreControl Gbr f.n) ∷
    row "0000nnnn00000010" "STC SR,Rn" (λ f. StoreControl Sr f.n) ∷
    row "0000nnnn00100010" "STC VBR,Rn" (λ f. StoreControl Vbr f.n) ∷
    row "0100nnnn00010011" "STC.L GBR,@-Rn" (λ f. StoreControlLong Gbr f.n) ∷
    row "0100nnnn00000011" "STC.L SR,@-Rn" (λ f. StoreControlLong Sr f.n) ∷
    row "0100nnnn00100011" "STC.L VBR,@-Rn" (λ f. StoreControlLong Vbr f.n) ∷
    row "0000nnnn00001010" "STS MACH,Rn" (λ f. StoreControl Mach f.n) ∷
    row "0000nnnn00011010" "STS MACL,Rn" (λ f. StoreControl Macl f.n) ∷
    row "0000nnnn00101010" "STS PR,Rn" (λ f. StoreControl Pr f.n) ∷
    row "0100nnnn00000010" "STS.L MACH,@-Rn" (λ f. StoreControlLong Mach f.n) ∷
    row "0100nnnn00010010" "STS.L MACL,@-Rn" (λ f. StoreControlLong Macl f.n) ∷
    row "0100nnnn00100010" "STS.L PR,@-Rn" (λ f. StoreControlLong Pr f.n) ∷
    row "0011nnnnmmmm1000" "SUB Rm,Rn" (λ f. TwoRegisters Sub f.m f.n) ∷
    row "0011nnnnmmmm1010" "SUBC Rm,Rn" (λ f. TwoRegisters Subc f.m f.n) ∷
    row "0011nnnnmmmm1011" "SUBV Rm,Rn" (λ f. TwoRegisters Subv f.m f.n) ∷
    row "0110nnnnmmmm1000" "SWAP.B Rm,Rn" (λ f. TwoRegisters SwapB f.m f.n) ∷
    row "0110nnnnmmmm1001" "SWAP.W Rm,Rn" (λ f. TwoRegisters SwapW f.m f.n) ∷
    row "0100nnnn00011011" "TAS.B @Rn" (λ f. TasB f.n) ∷
    row "11000011iiiiiiii" "TRAPA #imm" (λ f. Trapa f.i) ∷
    row "11001000iiiiiiii" "TST #imm,R0" (λ f. ImmediateR0 TstImm f.i) ∷
    row "0010nnnnmmmm1000" "TST Rm,Rn" (λ f. Compare Tst f.m f.n) ∷
    row "11001100iiiiiiii" "TST.B #imm,@(R0,GBR)" (λ f. ImmediateByte TstB f.i) ∷
    row "11001010iiiiiiii" "XOR #imm,R0" (λ f. ImmediateR0 XorImm f.i) ∷
    row "0010nnnnmmmm1010" "XOR Rm,Rn" (λ f. TwoRegisters Xor f.m f.n) ∷
    row "11001110iiiiiiii" "XOR.B #imm,@(R0,GBR)" (λ f. ImmediateByte XorB f.i) ∷
    row "0010nnnnmmmm1101" "XTRCT Rm,Rn" (λ f. TwoRegisters Xtrct f.m f.n) ∷
    []
