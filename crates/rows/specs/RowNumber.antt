-- The row number of an instruction: the place of its row in the code table, counted from 0. An undefined word has none.
use Rattle.std.specs.Prelude.{List, [], ◌∷◌, Option, None, Some, ℕ, suc, if◌then◌else◌}
use Rattle.decoder.specs.Pattern.{Nibbles}
use Rattle.decoder.specs.Code.{row_matches}
use Rattle.decoder.specs.Table.{Row}
use Rattle.decoder.specs.declared.meaning.Meaning.{Meaning}
use Rattle.decoder.specs.declared.meaning.Meaning.TheVariants.{Undefined, NoOperand, OneRegister, CompareZero, TwoRegisters, Compare, Divide, Multiply, MultiplyAdd, Immediate, ImmediateR0, ImmediateByte, Load, LoadIncrement, Store, StoreDecrement, Relative, LoadControl, LoadControlLong, StoreControl, StoreControlLong, TasB, BranchIf, Branch, BranchTo, Return, Trapa}
use Rattle.decoder.specs.declared.meaning.NoOperand.TheVariants.{Clrmac, Clrt, Div0u, Nop, Sett, Sleep}
use Rattle.decoder.specs.declared.meaning.OneRegister.TheVariants.{Dt, Movt, Rotcl, Rotcr, Rotl, Rotr, Shal, Shar, Shll, Shll2, Shll8, Shll16, Shlr, Shlr2, Shlr8, Shlr16}
use Rattle.decoder.specs.declared.meaning.CompareZero.TheVariants.{CmpPl, CmpPz}
use Rattle.decoder.specs.declared.meaning.TwoRegisters.TheVariants.{Add, Addc, Addv, And, ExtsB, ExtsW, ExtuB, ExtuW, Mov, Neg, Negc, Not, Or, Sub, Subc, Subv, SwapB, SwapW, Xor, Xtrct}
use Rattle.decoder.specs.declared.meaning.Compare.TheVariants.{CmpEq, CmpGe, CmpGt, CmpHi, CmpHs, CmpStr, Tst}
use Rattle.decoder.specs.declared.meaning.Divide.TheVariants.{Div0s, Div1}
use Rattle.decoder.specs.declared.meaning.Multiply.TheVariants.{DmulsL, DmuluL, MulL, MulsW, MuluW}
use Rattle.decoder.specs.declared.meaning.MultiplyAdd.TheVariants.{MacL, MacW}
use Rattle.decoder.specs.declared.meaning.Immediate.TheVariants.{AddImm, MovImm}
use Rattle.decoder.specs.declared.meaning.ImmediateR0.TheVariants.{AndImm, CmpEqImm, OrImm, TstImm, XorImm}
use Rattle.decoder.specs.declared.meaning.ImmediateByte.TheVariants.{AndB, OrB, TstB, XorB}
use Rattle.decoder.specs.declared.meaning.Size.TheVariants.{Byte, Word, Long}
use Rattle.decoder.specs.declared.meaning.Address.TheVariants.{Indirect, Indexed, Displacement, GbrDisplacement}
use Rattle.decoder.specs.declared.meaning.Relative.TheVariants.{MovW, MovL, Mova}
use Rattle.decoder.specs.declared.meaning.ControlRegister.TheVariants.{Gbr, Sr, Vbr, Mach, Macl, Pr}
use Rattle.decoder.specs.declared.meaning.BranchIf.TheVariants.{Bf, BfS, Bt, BtS}
use Rattle.decoder.specs.declared.meaning.Branch.TheVariants.{Bra, Bsr}
use Rattle.decoder.specs.declared.meaning.BranchTo.TheVariants.{Braf, Bsrf, Jmp, Jsr}
use Rattle.decoder.specs.declared.meaning.Return.TheVariants.{Rte, Rts}

-- The place of the row that matches a word, where the first of the rows has the place k.
abbrev pub place_from : ℕ → List Row → Nibbles → Option ℕ
place_from k [] w = None
place_from k (r ∷ rest) w = if row_matches w r then Some k else place_from (suc k) rest w

-- The same, told from the meaning alone.
abbrev pub row_number : Meaning → Option ℕ
row_number (Immediate AddImm i n) = Some 0
row_number (TwoRegisters Add m n) = Some 1
row_number (TwoRegisters Addc m n) = Some 2
row_number (TwoRegisters Addv m n) = Some 3
row_number (ImmediateR0 AndImm i) = Some 4
row_number (TwoRegisters And m n) = Some 5
row_number (ImmediateByte AndB i) = Some 6
row_number (BranchIf Bf d) = Some 7
row_number (BranchIf BfS d) = Some 8
row_number (Branch Bra d) = Some 9
row_number (BranchTo Braf m) = Some 10
row_number (Branch Bsr d) = Some 11
row_number (BranchTo Bsrf m) = Some 12
row_number (BranchIf Bt d) = Some 13
row_number (BranchIf BtS d) = Some 14
row_number (NoOperand Clrmac) = Some 15
row_number (NoOperand Clrt) = Some 16
row_number (ImmediateR0 CmpEqImm i) = Some 17
row_number (Compare CmpEq m n) = Some 18
row_number (Compare CmpGe m n) = Some 19
row_number (Compare CmpGt m n) = Some 20
row_number (Compare CmpHi m n) = Some 21
row_number (Compare CmpHs m n) = Some 22
row_number (CompareZero CmpPl n) = Some 23
row_number (CompareZero CmpPz n) = Some 24
row_number (Compare CmpStr m n) = Some 25
row_number (Divide Div0s m n) = Some 26
row_number (NoOperand Div0u) = Some 27
row_number (Divide Div1 m n) = Some 28
row_number (Multiply DmulsL m n) = Some 29
row_number (Multiply DmuluL m n) = Some 30
row_number (OneRegister Dt n) = Some 31
row_number (TwoRegisters ExtsB m n) = Some 32
row_number (TwoRegisters ExtsW m n) = Some 33
row_number (TwoRegisters ExtuB m n) = Some 34
row_number (TwoRegisters ExtuW m n) = Some 35
row_number (BranchTo Jmp m) = Some 36
row_number (BranchTo Jsr m) = Some 37
row_number (LoadControl Gbr m) = Some 38
row_number (LoadControl Sr m) = Some 39
row_number (LoadControl Vbr m) = Some 40
row_number (LoadControlLong Gbr m) = Some 41
row_number (LoadControlLong Sr m) = Some 42
row_number (LoadControlLong Vbr m) = Some 43
row_number (LoadControl Mach m) = Some 44
row_number (LoadControl Macl m) = Some 45
row_number (LoadControl Pr m) = Some 46
row_number (LoadControlLong Mach m) = Some 47
row_number (LoadControlLong Macl m) = Some 48
row_number (LoadControlLong Pr m) = Some 49
row_number (MultiplyAdd MacL m n) = Some 50
row_number (MultiplyAdd MacW m n) = Some 51
row_number (Immediate MovImm i n) = Some 52
row_number (TwoRegisters Mov m n) = Some 53
row_number (Load Byte (GbrDisplacement d) n) = Some 54
row_number (Load Byte (Displacement d r) n) = Some 55
row_number (Load Byte (Indexed r) n) = Some 56
row_number (LoadIncrement Byte m n) = Some 57
row_number (Load Byte (Indirect r) n) = Some 58
row_number (Store Byte m (GbrDisplacement d)) = Some 59
row_number (Store Byte m (Displacement d r)) = Some 60
row_number (Store Byte m (Indexed r)) = Some 61
row_number (StoreDecrement Byte m n) = Some 62
row_number (Store Byte m (Indirect r)) = Some 63
row_number (Load Long (GbrDisplacement d) n) = Some 64
row_number (Relative MovL d n) = Some 65
row_number (Load Long (Displacement d r) n) = Some 66
row_number (Load Long (Indexed r) n) = Some 67
row_number (LoadIncrement Long m n) = Some 68
row_number (Load Long (Indirect r) n) = Some 69
row_number (Store Long m (GbrDisplacement d)) = Some 70
row_number (Store Long m (Displacement d r)) = Some 71
row_number (Store Long m (Indexed r)) = Some 72
row_number (StoreDecrement Long m n) = Some 73
row_number (Store Long m (Indirect r)) = Some 74
row_number (Load Word (GbrDisplacement d) n) = Some 75
row_number (Relative MovW d n) = Some 76
row_number (Load Word (Displacement d r) n) = Some 77
row_number (Load Word (Indexed r) n) = Some 78
row_number (LoadIncrement Word m n) = Some 79
row_number (Load Word (Indirect r) n) = Some 80
row_number (Store Word m (GbrDisplacement d)) = Some 81
row_number (Store Word m (Displacement d r)) = Some 82
row_number (Store Word m (Indexed r)) = Some 83
row_number (StoreDecrement Word m n) = Some 84
row_number (Store Word m (Indirect r)) = Some 85
row_number (Relative Mova d n) = Some 86
row_number (OneRegister Movt n) = Some 87
row_number (Multiply MulL m n) = Some 88
row_number (Multiply MulsW m n) = Some 89
row_number (Multiply MuluW m n) = Some 90
row_number (TwoRegisters Neg m n) = Some 91
row_number (TwoRegisters Negc m n) = Some 92
row_number (NoOperand Nop) = Some 93
row_number (TwoRegisters Not m n) = Some 94
row_number (ImmediateR0 OrImm i) = Some 95
row_number (TwoRegisters Or m n) = Some 96
row_number (ImmediateByte OrB i) = Some 97
row_number (OneRegister Rotcl n) = Some 98
row_number (OneRegister Rotcr n) = Some 99
row_number (OneRegister Rotl n) = Some 100
row_number (OneRegister Rotr n) = Some 101
row_number (Return Rte) = Some 102
row_number (Return Rts) = Some 103
row_number (NoOperand Sett) = Some 104
row_number (OneRegister Shal n) = Some 105
row_number (OneRegister Shar n) = Some 106
row_number (OneRegister Shll n) = Some 107
row_number (OneRegister Shll2 n) = Some 108
row_number (OneRegister Shll8 n) = Some 109
row_number (OneRegister Shll16 n) = Some 110
row_number (OneRegister Shlr n) = Some 111
row_number (OneRegister Shlr2 n) = Some 112
row_number (OneRegister Shlr8 n) = Some 113
row_number (OneRegister Shlr16 n) = Some 114
row_number (NoOperand Sleep) = Some 115
row_number (StoreControl Gbr n) = Some 116
row_number (StoreControl Sr n) = Some 117
row_number (StoreControl Vbr n) = Some 118
row_number (StoreControlLong Gbr n) = Some 119
row_number (StoreControlLong Sr n) = Some 120
row_number (StoreControlLong Vbr n) = Some 121
row_number (StoreControl Mach n) = Some 122
row_number (StoreControl Macl n) = Some 123
row_number (StoreControl Pr n) = Some 124
row_number (StoreControlLong Mach n) = Some 125
row_number (StoreControlLong Macl n) = Some 126
row_number (StoreControlLong Pr n) = Some 127
row_number (TwoRegisters Sub m n) = Some 128
row_number (TwoRegisters Subc m n) = Some 129
row_number (TwoRegisters Subv m n) = Some 130
row_number (TwoRegisters SwapB m n) = Some 131
row_number (TwoRegisters SwapW m n) = Some 132
row_number (TasB n) = Some 133
row_number (Trapa i) = Some 134
row_number (ImmediateR0 TstImm i) = Some 135
row_number (Compare Tst m n) = Some 136
row_number (ImmediateByte TstB i) = Some 137
row_number (ImmediateR0 XorImm i) = Some 138
row_number (TwoRegisters Xor m n) = Some 139
row_number (ImmediateByte XorB i) = Some 140
row_number (TwoRegisters Xtrct m n) = Some 141
row_number Undefined = None
