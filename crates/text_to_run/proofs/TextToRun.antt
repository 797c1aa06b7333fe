-- From text to run: an accepted text leaves a memory of the same length, so no later call is refused, and no promise leaves a choice.
-- Assumes nothing.
use mathlib.Core.Path.{◌≡◌, refl, sym, ◌∙◌, ap}
use mathlib.Core.Bool.{false≢true}
use mathlib.Core.List.{List}
use Rattle.std.specs.Prelude.{Result, Ok, Err, IsOk, ⊤}
use Prim.Native.Nat.{ℕ}
use lib.ListN.{length}
use Rattle.memory.specs.Lengths.{refused_length}
use Rattle.srecord.specs.Load.{Verdict, placed, records, told, verdict_on}
use Rattle.srecord.specs.declared.Refused.{Refused as TextRefused}
use Rattle.srecord.proofs.Loading.{length_after, lines_accepted}
use Rattle.machine.specs.declared.Answer.{Answer}
use Rattle.machine.specs.declared.Machine.{Machine}
use Rattle.machine.specs.declared.Refused.{Refused}
use Rattle.machine.specs.Calls.{Called, Resets, Runs, blank, called, calling, reset_by, run_call, start}
use Rattle.machine.specs.Run.{run, still}
use Rattle.machine.specs.Situation.{machine_of, over}
use Rattle.machine.proofs.Calling.{accepted}
use Rattle.text_to_run.specs.TextToRun.{Answers, TextToRun}

module _ (image : List ℕ) (fits : refused_length (length image) ≡ 0) where
  abbrev first : Machine
  first = start blank image

  reset_accepted :
      (started : Result Answer Refused) → Resets image started → called started image ≡ record { refusal = 0; ran = still (over first image) }
  reset_accepted started resets = resets ∙ ap (λ (number : ℕ). reset_by number image) fits

  run_accepted :
      (budget : ℕ) (started ran : Result Answer Refused) (after : List ℕ) → Resets image started →
      Runs budget (machine_of (called started image).ran.after) image ran after →
      called ran after ≡ record { refusal = 0; ran = run budget (over first image) }
  run_accepted budget started ran after resets runs =
      runs
      ∙ ap (λ (m : Machine). run_call budget m image) (ap (λ (c : Called). machine_of c.ran.after) (reset_accepted started resets))
      ∙ ap (λ (number : ℕ). calling number (run budget (over first image)) (over first image)) (accepted first image fits refl)

module _ {text memory : List ℕ} {budget : ℕ} (a : Answers text memory budget) (taken : (verdict_on text (length memory)).number ≡ 0) where
  image_placed : a.image ≡ placed memory (records text)
  image_placed = a.loads.leaves ∙ rw taken

  image_fits : refused_length (length a.image) ≡ 0
  image_fits = rw (a.loads.leaves, length_after text memory) (lines_accepted text memory taken).0

accepted_told : (answer : Result ⊤ TextRefused) → IsOk answer → (told answer).number ≡ 0
accepted_told (Ok done) e = refl
accepted_told (Err refused) e = absurd (false≢true e)

pub text_to_run : TextToRun
text_to_run text memory budget a e =
    let taken : (verdict_on text (length memory)).number ≡ 0 =
    sym (ap (λ (v : Verdict). v.number) a.loads.answers) ∙ accepted_told a.loaded e in
    let fits = image_fits a taken in (
      ap (λ (c : Called). c.refusal) (reset_accepted a.image fits a.started a.resets),
      rw (image_placed a taken) at (run_accepted a.image fits budget a.started a.ran a.after a.resets a.runs),
    )
