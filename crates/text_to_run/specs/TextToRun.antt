-- From text to run: a text loaded, and the machine reset and run over what it leaves. Document 02, request One; document 01, "Reset" and
-- "Run".
use Rattle.std.specs.Prelude.{◌≡◌, List, ℕ, Result, ⊤, IsOk}
use Rattle.srecord.specs.declared.Refused.{Refused as TextRefused}
use Rattle.srecord.specs.Load.{Loads, placed, records}
use Rattle.machine.specs.declared.Answer.{Answer}
use Rattle.machine.specs.declared.Refused.{Refused}
use Rattle.machine.specs.Situation.{machine_of, over}
use Rattle.machine.specs.Run.{Ran, run}
use Rattle.machine.specs.Calls.{Resets, Runs, blank, called, start}

-- Answers that meet the promises of the public operations `load`, `reset` and `run`, each called with what the one before it left.
pub record Answers (text memory : List ℕ) (budget : ℕ) : Type 0 where
  pub loaded : Result ⊤ TextRefused
  pub image : List ℕ
  pub loads : Loads text memory loaded image
  pub started : Result Answer Refused
  pub resets : Resets image started
  pub ran : Result Answer Refused
  pub after : List ℕ
  pub runs : Runs budget (machine_of (called started image).ran.after) image ran after

-- The definition's run, from the definition's reset, over the definition's memory: the given one, with the data of each line of the text.
abbrev pub run_of : ℕ → List ℕ → List ℕ → Ran
run_of budget text memory =
    let image = placed memory (records text) in
    run budget (over (start blank image) image)

-- Whatever answers the promises allow: where the text is accepted, `reset` and `run` are not refused, and machine, memory and steps at the
-- end are those of that run.
abbrev pub TextToRun : Type 0
TextToRun =
    (text memory : List ℕ) (budget : ℕ) (a : Answers text memory budget) → IsOk a.loaded →
    ((called a.started a.image).refusal ≡ 0) ×
    (called a.ran a.after ≡ record { refusal = 0; ran = run_of budget text memory })
