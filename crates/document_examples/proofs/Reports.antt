-- Document 01's example of the runner, computed: the image's whole output, and the line of each refused length that it names.
-- Assumes nothing.
use mathlib.Core.Path.{◌≡◌, refl, ◌∙◌}
use mathlib.Core.List.{[], ◌∷◌, map, ◌++◌}
use Prim.Native.Nat.{ℕ}
use lib.ListN.{replicate}
use Rattle.machine.specs.Calls.{blank, run_call, start}
use Rattle.report.specs.Report.{
  answer_text,
  control_lines,
  general_lines,
  machine_text,
  mode_text,
  outcome,
  pc_line,
  register_line,
  report,
  state_line,
  target_line,
  value_text,
}
use Rattle.document_examples.proofs.Runs.{image, small, runs_to_sleep}
use Rattle.text.specs.Text.{ascii, decimal, hex_in, line_feed}

-- The image is accepted, so what the report tells is the run from the reset's state.
outcome_is_the_run : outcome small ≡ run_call 1000000 (start blank small) small
unfolding small image outcome
outcome_is_the_run = refl

pub whole_output :
    report small ≡
    ascii "state asleep steps 2" ++ line_feed ++ ascii "pc 00000204 sr 000000f0" ++ line_feed ++ ascii "r0 00000005" ++ line_feed ++
    ascii "r15 00000400" ++ line_feed
unfolding answer_text machine_text state_line mode_text pc_line target_line general_lines control_lines register_line value_text hex_in decimal
whole_output = rw (outcome_is_the_run ∙ runs_to_sleep) refl

-- "Length 1,022 is 1; length 0 and 1,020 are 2"
pub refused_lengths :
    map (λ (n : ℕ). report (replicate n 0)) (1022 ∷ 0 ∷ 1020 ∷ []) ≡
    (ascii "refused 1" ++ line_feed) ∷ (ascii "refused 2" ++ line_feed) ∷ (ascii "refused 2" ++ line_feed) ∷ []
unfolding outcome answer_text decimal
refused_lengths = refl
