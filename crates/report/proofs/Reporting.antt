-- What an image leads to; what a report's text, written from the buffer's start, comes to; and that the promise allows one outcome.
-- Assumes nothing.
use mathlib.Core.Path.{◌≡◌, refl, sym, ap, ◌∙◌}
use mathlib.Core.Bool.{false}
use mathlib.Core.List.{List, ◌++◌}
use Prim.Native.Nat.{ℕ, min}
use lib.Dec.{eqb}
use lib.ListN.{drop, length, replicate, take}
use Rattle.machine.specs.Calls.{Called, called, refusal_number, reset_by, run_call}
use Rattle.machine.specs.Situation.{machine_of}
use Rattle.machine.specs.declared.Answer.{Answer}
use Rattle.machine.specs.declared.Refusal.{Refusal}
use Rattle.machine.specs.declared.Refusal.TheVariants.{Ragged, Size, Status}
use Rattle.machine.specs.declared.Refused.{Refused}
use Rattle.std.specs.Prelude.{IfErr, IfOk, Result, Ok, Err}
use Rattle.text.specs.declared.pages.Page as lent
use Rattle.text.specs.Writing.{Page, Writes, page, write}
use Rattle.text.proofs.Filling.{written}
use Rattle.report.specs.Report.{Reports, Roomy, answer_text, machine_text, outcome, refusal_text, refused_image, report, run_from}

never_zero : (why : Refusal) → eqb (refusal_number why) 0 ≡ false
never_zero Ragged = refl
never_zero Size = refl
never_zero Status = refl

-- Where the reset is accepted, the outcome is that of the run; where it is refused, the reset's.
pub goes_on :
    (image : List ℕ) (start : Answer) →
    called (Ok start) image ≡ reset_by (refused_image image) image → run_call 1000000 start.machine image ≡ outcome image
unfolding outcome
goes_on image start begun = ap (λ (c : Called). run_from c image) begun

pub stays :
    (image : List ℕ) (refused : Refused) →
    called (Err refused) image ≡ reset_by (refused_image image) image → called (Err refused) image ≡ outcome image
unfolding outcome
stays image refused begun = rw (never_zero refused.refusal) at (ap (λ (c : Called). run_from c image) begun)

-- What is printed of what a call comes to.
abbrev pub text_of : Called → List ℕ
text_of c = answer_text c.refusal (machine_of c.ran.after) c.ran.steps

pub answered :
    (answer : Result Answer Refused) (memory : List ℕ) {p q : lent.Page} →
    IfOk answer (λ a. Writes (machine_text a.machine a.steps) p q) →
    IfErr answer (λ r. Writes (refusal_text (refusal_number r.refusal)) p q) → Writes (text_of (called answer memory)) p q
unfolding answer_text
answered (Ok answer) memory ran refused = ran
answered (Err why) memory ran refused = rw (never_zero why.refusal) refused

kept : (answer : Result Answer Refused) (memory : List ℕ) → (called answer memory).ran.after.state.memory ≡ memory
kept (Ok answer) memory = refl
kept (Err why) memory = refl

pub reported :
    (image buffer : List ℕ) (answer : Result Answer Refused) (after : List ℕ) {filled : List ℕ} {n : ℕ} →
    called answer after ≡ outcome image →
    page filled n ≡ write (text_of (called answer after)) (page buffer 0) →
    Reports image after buffer filled n
reported image buffer answer after {filled} {n} came writes =
    let said = text_of (called answer after) in
    let text : said ≡ report image = ap text_of came in
    let whole = writes ∙ written buffer said in
    let count : n ≡ min (length buffer) (length (report image)) =
    ap (λ (p : Page). p.place) whole ∙ ap (λ (t : List ℕ). min (length buffer) (length t)) text in
    record {
      counts = count;
      fills =
          ap (λ (p : Page). p.bytes) whole
          ∙ ap (λ (t : List ℕ). take (min (length buffer) (length t)) t ++ drop (min (length buffer) (length t)) buffer) text
          ∙ ap (λ (k : ℕ). take k (report image) ++ drop k buffer) (sym count);
      leaves = sym (kept answer after) ∙ ap (λ (x : Called). x.ran.after.state.memory) came;
    }

-- Two outcomes of a call coincide.
pub record Same (after₁ after₂ filled₁ filled₂ : List ℕ) (n₁ n₂ : ℕ) : Type 0 where
  pub counted : n₁ ≡ n₂
  pub filled : filled₁ ≡ filled₂
  pub left : after₁ ≡ after₂

pub report_determined :
    (image buffer : List ℕ) {after₁ after₂ filled₁ filled₂ : List ℕ} {n₁ n₂ : ℕ} →
    Reports image after₁ buffer filled₁ n₁ → Reports image after₂ buffer filled₂ n₂ → Same after₁ after₂ filled₁ filled₂ n₁ n₂
report_determined image buffer first second =
    let same = first.counts ∙ sym second.counts in
    record {
      counted = same;
      filled =
          first.fills ∙ ap (λ (k : ℕ). take k (report image) ++ drop k buffer) same ∙ sym second.fills;
      left = first.leaves ∙ sym second.leaves;
    }

-- `buffer` can only be its 347 zeros.
pub buffer_determined : {b c : List ℕ} → (347 ≡ length b) × Roomy b → (347 ≡ length c) × Roomy c → b ≡ c
buffer_determined (long, roomy) (long', roomy') =
    roomy.zeros ∙ ap (λ (n : ℕ). replicate n 0) (sym long ∙ long') ∙ sym roomy'.zeros
