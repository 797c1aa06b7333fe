-- `verdict` asks the length, then the sweep, and then, unless the data stand in order, for the first line that writes an address again.
-- Assumes nothing.
use Rattle.std.proofs.Common.{◌≡◌, sym, ◌∙◌, le_refl, le-ltb, lt-ltb}
use Rattle.memory.specs.Lengths.{refused_length}
use Rattle.memory.proofs.Acceptance.{accepted_size}
use Rattle.srecord.proofs.Verdicts.{all_read, ordered_once, verdict_found, verdict_once}
use Rattle.srecord.proofs.verdict.Goals as goal

pub returns-then-swept : goal.returns-then-swept
returns-then-swept c =
    let fits : refused_length c.args.size ≡ 0 = sym c.in_ok-check_length.ensures in
    rw fits (sym (verdict_once _ _ _ c.sweep-swept.ensures (ordered_once _ _ _ c.sweep-swept.ensures _ c.if-swept.true)))

pub first_again-requires : goal.first_again-requires
first_again-requires c =
    let fits : refused_length c.args.size ≡ 0 = sym c.in_ok-check_length.ensures in
    ((accepted_size _ fits).1, all_read _ _ _ c.sweep-swept.ensures)

pub returns-in-Some : goal.returns-in-Some
returns-in-Some c =
    let fits : refused_length c.args.size ≡ 0 = sym c.in_ok-check_length.ensures in
    let found = c.in-Some.ensures in
    rw fits (sym (verdict_found _ _ _ c.sweep-swept.ensures _ found.first ∙ rw (lt-ltb _ _ found.below)))

pub returns-in-None : goal.returns-in-None
returns-in-None c =
    let fits : refused_length c.args.size ≡ 0 = sym c.in_ok-check_length.ensures in
    let passed = c.sweep-swept.result.passed in
    rw fits (sym (verdict_found _ _ _ c.sweep-swept.ensures _ c.in-None.ensures.first ∙ rw (le-ltb _ _ (le_refl passed))))
