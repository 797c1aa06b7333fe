-- How long a report can be: the sum of its lines. In a buffer of that length, all of it stands at the start.
-- Assumes nothing.
use mathlib.Core.Path.{◌≡◌, sym, ap, ◌∙◌}
use mathlib.Core.Bool.{Bool, true, false, cond}
use mathlib.Core.List.{List, [], ◌++◌}
use Prim.Native.Nat.{ℕ, zero, suc, ◌+◌, ◌*◌, ◌≤◌}
use native.Mathlib.Nat.{le_refl, le_trans, min-eq_right}
use native.Mathlib.Omega.{arith}
use lib.Dec.{eqb}
use lib.ListN.{drop, get_or, length, length-append, take}
use lib.Seq.{drop_at, take_at, take-length}
use Rattle.instructions.specs.declared.control.Control.{Control}
use Rattle.machine.specs.Situation.{machine_of, reason_number}
use Rattle.machine.specs.declared.Machine.{Machine}
use Rattle.machine.specs.declared.Mode.{Mode}
use Rattle.machine.specs.declared.Mode.TheVariants.{Running, Slot, Asleep, Stopped}
use Rattle.text.specs.Text.{ascii, decimal, hex, line_feed}
use Rattle.text.specs.declared.digits.Case.TheVariants.{Lower}
use Rattle.text.proofs.Figures.{decimal_length, hex_length}
use Rattle.report.specs.Report.{
  Reports,
  answer_text,
  control_lines,
  general_lines,
  machine_text,
  mode_text,
  outcome,
  pc_line,
  refusal_text,
  register_line,
  report,
  state_line,
  target_line,
  value_text,
}

-- A text of at most k bytes.
record Most (k : ℕ) (text : List ℕ) : Type 0 where
  most : length text ≤ k

both : {x y : List ℕ} {p q : ℕ} → Most p x → Most q y → Most (p + q) (x ++ y)
both {x} {y} h k = record { most = rw (length-append x y) (omega (arith, h.most, k.most)) }

word : (x : List ℕ) → Most (length x) x
word x = record { most = le_refl (length x) }

hex_most : (n : ℕ) → Most 8 (hex 8 n)
hex_most n = record { most = rw (hex_length Lower 8 n) (le_refl 8) }

decimal_most : (k n : ℕ) → Most k (decimal k n)
decimal_most k n = record { most = decimal_length k n }

less : {x : List ℕ} {p : ℕ} (q : ℕ) → p ≤ q → Most p x → Most q x
less q h x = record { most = le_trans x.most h }

mode_most : (mode : Mode) → Most 9 (mode_text mode)
unfolding mode_text
mode_most Running = less 9 (omega arith) (word (ascii "running"))
mode_most (Slot target) = less 9 (omega arith) (word (ascii "slot"))
mode_most Asleep = less 9 (omega arith) (word (ascii "asleep"))
mode_most (Stopped reason) = both (word (ascii "stopped ")) (decimal_most 1 (reason_number reason))

state_most : (mode : Mode) (steps : ℕ) → Most 33 (state_line mode steps)
unfolding state_line
state_most mode steps =
    both (both (both (both (word (ascii "state ")) (mode_most mode)) (word (ascii " steps "))) (decimal_most 10 steps)) (word line_feed)

pc_most : (pc sr : ℕ) → Most 24 (pc_line pc sr)
unfolding pc_line
pc_most pc sr = both (both (both (both (word (ascii "pc ")) (hex_most pc)) (word (ascii " sr "))) (hex_most sr)) (word line_feed)

target_most : (mode : Mode) → Most 16 (target_line mode)
unfolding target_line
target_most Running = less 16 (omega arith) (word [])
target_most (Slot target) = both (both (word (ascii "target ")) (hex_most target)) (word line_feed)
target_most Asleep = less 16 (omega arith) (word [])
target_most (Stopped reason) = less 16 (omega arith) (word [])

value_most : (value : ℕ) → Most 10 (value_text value)
unfolding value_text
value_most value = both (both (word (ascii " ")) (hex_most value)) (word line_feed)

register_most : {name : List ℕ} {p : ℕ} → Most p name → (value : ℕ) → Most (p + 10) (register_line name value)
unfolding register_line
register_most {name} {p} h value = go (eqb value 0)
  where
    go : (t : Bool) → Most (p + 10) (cond t [] (name ++ value_text value))
    go true = less (p + 10) (omega arith) (word [])
    go false = both h (value_most value)

general_most : (k : ℕ) (r : List ℕ) → Most (k * 13) (general_lines k r)
unfolding general_lines
general_most zero r = word []
general_most (suc k) r =
    less (suc k * 13) (omega arith)
    (both (general_most k r) (register_most (both (word (ascii "r")) (decimal_most 2 k)) (get_or r k 0)))

control_most : (c : Control) → Most 66 (control_lines c)
unfolding control_lines
control_most c =
    both (both (both (both
    (register_most (word (ascii "gbr")) c.gbr)
    (register_most (word (ascii "vbr")) c.vbr))
    (register_most (word (ascii "pr")) c.pr))
    (register_most (word (ascii "mach")) c.mach))
    (register_most (word (ascii "macl")) c.macl)

machine_most : (m : Machine) (steps : ℕ) → Most 347 (machine_text m steps)
unfolding machine_text
machine_most m steps =
    both (both (both (both
    (state_most m.mode steps)
    (pc_most m.control.pc m.control.sr))
    (target_most m.mode))
    (general_most 16 m.r))
    (control_most m.control)

refusal_most : (number : ℕ) → Most 10 (refusal_text number)
refusal_most number = both (both (word (ascii "refused ")) (decimal_most 1 number)) (word line_feed)

answer_most : (refusal : ℕ) (m : Machine) (steps : ℕ) → Most 347 (answer_text refusal m steps)
unfolding answer_text
answer_most refusal m steps = go (eqb refusal 0)
  where
    go : (t : Bool) → Most 347 (cond t (machine_text m steps) (refusal_text refusal))
    go true = machine_most m steps
    go false = less 347 (omega arith) (refusal_most refusal)

-- No report is longer than 347 bytes.
pub enough : (image : List ℕ) → length (report image) ≤ 347
enough image =
    let end = outcome image in
    (answer_most end.refusal (machine_of end.ran.after) end.ran.steps).most

-- Where there is room for the report, it stands at the buffer's start, whole, and what is behind it stays.
pub record Stands (image buffer filled : List ℕ) (n : ℕ) : Type 0 where
  pub whole : n ≡ length (report image)
  pub text : take n filled ≡ report image
  pub rest : drop n filled ≡ drop n buffer

pub stands :
    (image buffer : List ℕ) {after filled : List ℕ} {n : ℕ} →
    length (report image) ≤ length buffer → Reports image after buffer filled n → Stands image buffer filled n
stands image buffer {after} {filled} {n} room made =
    let all : n ≡ length (report image) = made.counts ∙ min-eq_right room in
    let fills = made.fills ∙ ap (λ (t : List ℕ). t ++ drop n buffer) (ap (λ (k : ℕ). take k (report image)) all ∙ take-length (report image)) in
    record {
      whole = all;
      text = ap (take n) fills ∙ take_at (report image) (drop n buffer) n (sym all);
      rest = ap (drop n) fills ∙ drop_at (report image) (drop n buffer) n (sym all);
    }
