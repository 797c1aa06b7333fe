-- What the runner prints: document 01, "The runner".
use Rattle.std.specs.Prelude.{◌≡◌, cond, List, [], ◌∷◌, ◌++◌, ℕ, zero, suc, ◌≤◌, min, eqb, ltb, drop, get_or, length, replicate, take}
use Rattle.instructions.specs.declared.control.Control.{Control}
use Rattle.memory.specs.Lengths.{first, test}
use Rattle.machine.specs.Situation.{machine_of, reason_number}
use Rattle.machine.specs.Calls.{Called, reset_by, reset_tests, run_call}
use Rattle.machine.specs.declared.Machine.{Machine}
use Rattle.machine.specs.declared.Mode.{Mode}
use Rattle.machine.specs.declared.Mode.TheVariants.{Running, Slot, Asleep, Stopped}
use Rattle.text.specs.Text.{ascii, decimal, hex, line_feed}

-- "an image of at most 65,536 bytes ... Longer input counts as refusal 2, also where its length is no multiple of 4."
abbrev pub refused_image : List ℕ → ℕ
refused_image image = first (test 2 (ltb 65536 (length image)) ∷ reset_tests image)

-- "resets, runs with budget 1,000,000"
abbrev pub run_from : Called → List ℕ → Called
run_from start image = cond (eqb start.refusal 0) (run_call 1000000 (machine_of start.ran.after) image) start

unfoldable pub outcome : List ℕ → Called
outcome image = run_from (reset_by (refused_image image) image) image

-- "A refusal prints only `refused ` and the number."
abbrev pub refusal_text : ℕ → List ℕ
refusal_text number = ascii "refused " ++ decimal 1 number ++ line_feed

-- "mode (running, slot, asleep, or `stopped 1` for reason 1 and so on)"
unfoldable pub mode_text : Mode → List ℕ
mode_text Running = ascii "running"
mode_text (Slot target) = ascii "slot"
mode_text Asleep = ascii "asleep"
mode_text (Stopped reason) = ascii "stopped " ++ decimal 1 (reason_number reason)

-- "mode ... and steps in decimal"
unfoldable pub state_line : Mode → ℕ → List ℕ
state_line mode steps = ascii "state " ++ mode_text mode ++ ascii " steps " ++ decimal 10 steps ++ line_feed

-- "PC and SR"
unfoldable pub pc_line : ℕ → ℕ → List ℕ
pc_line pc sr = ascii "pc " ++ hex 8 pc ++ ascii " sr " ++ hex 8 sr ++ line_feed

-- "for a slot, a line `target` with the address"
unfoldable pub target_line : Mode → List ℕ
target_line Running = []
target_line (Slot target) = ascii "target " ++ hex 8 target ++ line_feed
target_line Asleep = []
target_line (Stopped reason) = []

-- "each nonzero one ... eight lower-case hex digits each"
unfoldable pub value_text : ℕ → List ℕ
value_text value = ascii " " ++ hex 8 value ++ line_feed

unfoldable pub register_line : List ℕ → ℕ → List ℕ
register_line name value = cond (eqb value 0) [] (name ++ value_text value)

-- The lines of the first k of "r0 to r15".
unfoldable pub general_lines : ℕ → List ℕ → List ℕ
general_lines zero r = []
general_lines (suc k) r = general_lines k r ++ register_line (ascii "r" ++ decimal 2 k) (get_or r k 0)

-- "gbr, vbr, pr, mach, macl in that order"
unfoldable pub control_lines : Control → List ℕ
control_lines c =
    register_line (ascii "gbr") c.gbr ++ register_line (ascii "vbr") c.vbr ++ register_line (ascii "pr") c.pr ++
    register_line (ascii "mach") c.mach ++ register_line (ascii "macl") c.macl

unfoldable pub machine_text : Machine → ℕ → List ℕ
machine_text m steps =
    state_line m.mode steps ++ pc_line m.control.pc m.control.sr ++ target_line m.mode ++ general_lines 16 m.r ++
    control_lines m.control

unfoldable pub answer_text : ℕ → Machine → ℕ → List ℕ
answer_text refusal m steps = cond (eqb refusal 0) (machine_text m steps) (refusal_text refusal)

abbrev pub report : List ℕ → List ℕ
report image =
    let end = outcome image in
    answer_text end.refusal (machine_of end.ran.after) end.ran.steps

-- The promise of `report`: the buffer's first n bytes are the report's (all of them where it has room), those past them stay, and
-- the memory is as the run leaves it.
pub record Reports (image after buffer filled : List ℕ) (n : ℕ) : Type 0 where
  pub counts : n ≡ min (length buffer) (length (report image))
  pub fills : filled ≡ take n (report image) ++ drop n buffer
  pub leaves : after ≡ (outcome image).ran.after.state.memory

-- The promise of `buffer`: zeros, and no report is longer.
pub record Roomy (buffer : List ℕ) : Type 0 where
  pub zeros : buffer ≡ replicate (length buffer) 0
  pub holds : (image : List ℕ) → length (report image) ≤ length buffer
