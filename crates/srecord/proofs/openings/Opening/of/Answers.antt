-- `Opening::of` compares a line's first two bytes with the eight.
-- Assumes nothing.
use Rattle.std.proofs.Common.{◌≡◌, get_or, refl, arith, ne_eqb}
use Rattle.srecord.proofs.Starts.{another, found, too_short}
use Rattle.srecord.proofs.openings.Opening.of.Goals as goal

pub returns-in_err-start : goal.returns-in_err-start
returns-in_err-start c = rw c.from_residual.ensures (too_short c.args.line.now c.in_err-start.ensures.cases)

pub returns-in-S0 : goal.returns-in-S0
returns-in-S0 c = found c.in_ok-start.ensures.cases 83 48 (omega arith) (omega arith) refl

pub returns-in-S1 : goal.returns-in-S1
returns-in-S1 c = found c.in_ok-start.ensures.cases 83 49 (omega arith) (omega arith) refl

pub returns-in-S2 : goal.returns-in-S2
returns-in-S2 c = found c.in_ok-start.ensures.cases 83 50 (omega arith) (omega arith) refl

pub returns-in-S3 : goal.returns-in-S3
returns-in-S3 c = found c.in_ok-start.ensures.cases 83 51 (omega arith) (omega arith) refl

pub returns-in-S5 : goal.returns-in-S5
returns-in-S5 c = found c.in_ok-start.ensures.cases 83 53 (omega arith) (omega arith) refl

pub returns-in-S7 : goal.returns-in-S7
returns-in-S7 c = found c.in_ok-start.ensures.cases 83 55 (omega arith) (omega arith) refl

pub returns-in-S8 : goal.returns-in-S8
returns-in-S8 c = found c.in_ok-start.ensures.cases 83 56 (omega arith) (omega arith) refl

pub returns-in-S9 : goal.returns-in-S9
returns-in-S9 c = found c.in_ok-start.ensures.cases 83 57 (omega arith) (omega arith) refl

pub returns-in_default : goal.returns-in_default
returns-in_default c =
    let start = c.in_ok-start.field-0.now in
    let s : get_or start 0 0 ≡ 83 = omega arith in
    let b = get_or start 1 0 in
    another c.in_ok-start.ensures.cases
    (rw (
      s,
      ne_eqb b 48 (λ e. omega arith),
      ne_eqb b 49 (λ e. omega arith),
      ne_eqb b 50 (λ e. omega arith),
      ne_eqb b 51 (λ e. omega arith),
      ne_eqb b 53 (λ e. omega arith),
      ne_eqb b 55 (λ e. omega arith),
      ne_eqb b 56 (λ e. omega arith),
      ne_eqb b 57 (λ e. omega arith),
    ))

pub returns-in_default-2 : goal.returns-in_default-2
returns-in_default-2 c =
    another c.in_ok-start.ensures.cases (rw (ne_eqb (get_or c.in_ok-start.field-0.now 0 0) 83 (λ e. omega arith)))
