-- `mark` marks from `low` on: all before `i` are marked, and none of them was. It stops at one that was marked before.
-- Assumes nothing.
use Rattle.std.proofs.Common.{◌≡◌, ◌/◌, ◌%◌, ◌^◌, ◌<◌, get_or, arith, eq-eqb, ne_eqb}
use Rattle.srecord.specs.Promises.{between, marked}
use Rattle.srecord.proofs.Marking.{between_more, between_none, between_within, bit_fits, shifted}
use Rattle.srecord.proofs.Marking.{marks_more, marks_taken}
use Rattle.srecord.proofs.marks.mark.Goals as goal

pub returns-then-old-bit-eq1 : goal.returns-then-old-bit-eq1
unfolding marked
returns-then-old-bit-eq1 c =
    let now = c.loop-i in
    marks_taken (between c.args.low c.args.high) now.i now.invariant
    (omega arith) (between_none _ _ now.i (λ h. omega arith)) (between_within _ _ now.i (omega arith) (omega arith))
    (eq-eqb _ _ c.if-old-bit-eq1.true)

pub overflow_add-marks : goal.overflow_add-marks
overflow_add-marks c =
    let i = c.loop-i.i in
    let old = get_or c.loop-i.marks (i / 8) 0 in
    let known : old < 2 ^ 8 = omega arith in
    let clear : old / 2 ^ (i % 8) % 2 ≡ 0 = omega arith in
    rw (shifted (i % 8) (omega arith)) (record { fits = bit_fits (i % 8) 8 old (omega arith) known clear })

pub loop-i-preserved : goal.loop-i-preserved
unfolding marked
loop-i-preserved c =
    let now = c.loop-i in
    let i = now.i in
    rw (shifted (i % 8) (omega arith))
    (marks_more _ i now.invariant (omega arith) (between_none _ _ i (λ h. omega arith)) (ne_eqb _ _ c.if-old-bit-eq1.false)
    (between_more _ i (omega arith)))
