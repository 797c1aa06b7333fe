-- Document 01, "Twelve small facts", as one table under one statement. A row has what the instruction's clause leaves in a machine with the
-- numbers named, and what document 01 says: Rn, then the bits it names; for a branch where it jumps; for a word 1 if it is undefined.
use Rattle.std.specs.Prelude.{◌≡◌, refl, List, [], ◌∷◌, map, ℕ}
use Prim.Native.String.{String}
use Rattle.numbers.specs.Numbers.{truth}
use Rattle.arithmetic.specs.Addresses.{following}
use Rattle.decoder.specs.Code.{unmatched}
use Rattle.decoder.specs.Table.{table}
use Rattle.decoder.specs.declared.meaning.Meaning.{Meaning}
use Rattle.decoder.specs.declared.meaning.Meaning.TheVariants.{BranchIf, Divide, OneRegister, TwoRegisters}
use Rattle.decoder.specs.declared.meaning.BranchIf.TheVariants.{Bf}
use Rattle.decoder.specs.declared.meaning.Divide.TheVariants.{Div1}
use Rattle.decoder.specs.declared.meaning.OneRegister.TheVariants.{Dt, Rotcr, Rotl, Shar, Shlr2}
use Rattle.decoder.specs.declared.meaning.TwoRegisters.TheVariants.{Addv, ExtsB, Negc}
use Rattle.instructions.specs.Execute.{execute}
use Rattle.instructions.specs.Shapes.{Effect}
use Rattle.instructions.specs.State.{control, q_bit, reg, t_bit}
use Rattle.instructions.specs.declared.control.Flow.{Flow}
use Rattle.instructions.specs.declared.control.Flow.TheVariants.{Next, Jump, Delay, Sleep, Trap, Fault, Illegal}

pub record Fact : Type 0 where
  pub name : String
  pub given : List ℕ
  pub stated : List ℕ

abbrev fact : String → List ℕ → List ℕ → Fact
fact s g t = record { name = s; given = g; stated = t }

-- The instruction, at H'200, in a machine with Rm in R1, Rn in R2 and this SR, of which T is bit 0; all else is 0.
abbrev after : Meaning → (m n sr : ℕ) → Effect
after x m n sr =
    execute x (following 0x200) (record { registers = 0 ∷ m ∷ n ∷ []; control = control 0x200 sr 0 0 0 0 0; memory = [] })

abbrev rn : Effect → List ℕ
rn e = reg 2 e.after ∷ []

abbrev rn_t : Effect → List ℕ
rn_t e = reg 2 e.after ∷ t_bit e.after ∷ []

abbrev rn_qt : Effect → List ℕ
rn_qt e = reg 2 e.after ∷ q_bit e.after ∷ t_bit e.after ∷ []

-- Where a jump leads; a delayed branch is none.
abbrev jumps : Flow → List ℕ
jumps Next = []
jumps (Jump target) = target ∷ []
jumps (Delay target) = []
jumps Sleep = []
jumps (Trap number) = []
jumps Fault = []
jumps Illegal = []

abbrev pub facts : List Fact
facts =
    fact "ADDV 2 + H'7FFFFFFE" (rn_t (after (TwoRegisters Addv 1 2) 2 0x7fff_fffe 0)) (0x8000_0000 ∷ 1 ∷ []) ∷
    fact "ROTCR of 1 with T 1" (rn_t (after (OneRegister Rotcr 2) 0 1 1)) (0x8000_0000 ∷ 1 ∷ []) ∷
    fact "ROTL of H'80000000" (rn_t (after (OneRegister Rotl 2) 0 0x8000_0000 0)) (1 ∷ 1 ∷ []) ∷
    fact "SHLR2 of H'12345678" (rn (after (OneRegister Shlr2 2) 0 0x1234_5678 0)) (0x048d_159e ∷ []) ∷
    fact "SHAR of H'80000001" (rn_t (after (OneRegister Shar 2) 0 0x8000_0001 0)) (0xc000_0000 ∷ 1 ∷ []) ∷
    fact "DT of 1" (rn_t (after (OneRegister Dt 2) 0 1 0)) (0 ∷ 1 ∷ []) ∷
    fact "EXTS.B of H'80" (rn (after (TwoRegisters ExtsB 1 2) 0x80 0 0)) (0xffff_ff80 ∷ []) ∷
    fact "NEGC of 1 with T 0" (rn_t (after (TwoRegisters Negc 1 2) 1 0 0)) (0xffff_ffff ∷ 1 ∷ []) ∷
    fact "BF at H'200 with displacement H'80 and T 0" (jumps (after (BranchIf Bf 0x80) 0 0 0).flow) (0x104 ∷ []) ∷
    fact "DIV1 (Q, M 0) with Rm 3, Rn 1, T 1" (rn_qt (after (Divide Div1 1 2) 3 1 1)) (0 ∷ 0 ∷ 1 ∷ []) ∷
    fact "DIV1 (Q, M 0) with Rm 3, Rn 1, T 0" (rn_qt (after (Divide Div1 1 2) 3 1 0)) (0xffff_ffff ∷ 1 ∷ 0 ∷ []) ∷
    fact "word H'FFFF" (truth (unmatched 0xffff) ∷ []) (1 ∷ []) ∷
    []

pub all_hold : map (λ f. f.given) facts ≡ map (λ f. f.stated) facts
unfolding execute table
all_hold = refl
