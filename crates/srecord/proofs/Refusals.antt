-- A refusal's number tells which it is, and is not 0.
-- Assumes nothing.
use Rattle.std.proofs.Common.{◌≡◌, ℕ, cond, eqb, sym, refl, ap, ◌∙◌, arith, Result, Ok, Err}
use Rattle.std.specs.Bool.{⊤}
use Rattle.srecord.specs.Load.{Verdict, refusal_number, told}
use Rattle.srecord.specs.declared.Refused.{Refused}
use Rattle.srecord.specs.declared.Refusal.{Refusal}
use Rattle.srecord.specs.declared.Refusal.TheVariants.{Ragged, Size, Line, Check, Outside, Twice, Number, Unclosed, Room}

abbrev or : Refusal → (ℕ → Refusal) → ℕ → Refusal
or why others number = cond (eqb number (refusal_number why)) why (others number)

refusal_of : ℕ → Refusal
refusal_of = or Ragged (or Size (or Line (or Check (or Outside (or Twice (or Number (or Unclosed (λ number. Room))))))))

known : (why : Refusal) → refusal_of (refusal_number why) ≡ why
unfolding refusal_of
known Ragged = refl
known Size = refl
known Line = refl
known Check = refl
known Outside = refl
known Twice = refl
known Number = refl
known Unclosed = refl
known Room = refl

pub some_number : (why : Refusal) → refusal_number why ≡ 0 → ⊥
some_number Ragged e = omega arith
some_number Size e = omega arith
some_number Line e = omega arith
some_number Check e = omega arith
some_number Outside e = omega arith
some_number Twice e = omega arith
some_number Number e = omega arith
some_number Unclosed e = omega arith
some_number Room e = omega arith

pub refusal_determined : (a b : Refusal) → refusal_number a ≡ refusal_number b → a ≡ b
refusal_determined a b e = sym (known a) ∙ ap refusal_of e ∙ known b

-- What is told tells the answer.
pub told_determined : (a b : Result ⊤ Refused) → told a ≡ told b → a ≡ b
told_determined (Ok a) (Ok b) e = refl
told_determined (Ok a) (Err s) e = absurd (some_number s.refusal (sym (ap (λ (v : Verdict). v.number) e)))
told_determined (Err r) (Ok b) e = absurd (some_number r.refusal (ap (λ (v : Verdict). v.number) e))
told_determined (Err r) (Err s) e =
    let why = refusal_determined r.refusal s.refusal (ap (λ (v : Verdict). v.number) e) in
    let line = ap (λ (v : Verdict). v.line) e in
    λ i. Err (record { refusal = why i; line = line i })
