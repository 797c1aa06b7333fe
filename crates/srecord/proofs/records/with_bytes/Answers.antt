-- `with_bytes` adds up the digits' bytes, and then tells by the first of them whether the line's length fits.
-- Assumes nothing.
use Rattle.std.proofs.Common.{sym, ◌∙◌}
use Rattle.srecord.proofs.Summaries.{Cut, first_byte, is_record, may_not, no_bytes, sum_known, wrong_count}
use Rattle.srecord.proofs.records.with_bytes.Goals.{then-pairs-count-via-then-pairs-count, then-pairs-count-via-else-pairs-count+then-not-may}
use Rattle.srecord.proofs.records.with_bytes.Goals as goal

pub returns-in_err-first : goal.returns-in_err-first
returns-in_err-first c =
    let cut : Cut c.args.digits.now c.as_chunks.result.0.now =
    record { front = c.as_chunks.ensures.front; many = c.as_chunks.ensures.front_len } in
    let k = sum_known _ c.in_ok-sum.ensures in
    rw c.from_residual-in_err-first.ensures (no_bytes cut k.1 c.args.opening c.in_err-first.ensures.value)

pub returns-then-pairs-count : goal.returns-then-pairs-count
returns-then-pairs-count c =
    let cut : Cut c.args.digits.now c.as_chunks.result.0.now =
    record { front = c.as_chunks.ensures.front; many = c.as_chunks.ensures.front_len } in
    let k = sum_known _ c.in_ok-sum.ensures in
    let counted = first_byte cut k.1 c.byte-count.result c.in_ok-first.ensures.value c.byte-count.ensures in
    elim c.then-pairs-count.branch [
      | then-pairs-count-via-then-pairs-count w ↦ wrong_count cut k.1 c.args.opening _ counted w.if-pairs-count.true
      | then-pairs-count-via-else-pairs-count+then-not-may w ↦
          may_not cut k.1 c.args.opening _ counted w.if-pairs-count.false (sym w.may.ensures ∙ w.if-not-may.true)
    ]

pub returns : goal.returns
returns c =
    let cut : Cut c.args.digits.now c.as_chunks.result.0.now =
    record { front = c.as_chunks.ensures.front; many = c.as_chunks.ensures.front_len } in
    let k = sum_known _ c.in_ok-sum.ensures in
    let counted = first_byte cut k.1 c.byte-count.result c.in_ok-first.ensures.value c.byte-count.ensures in
    rw c.data_length.ensures
    (is_record cut k.1 c.args.opening _ counted c.if-pairs-count.false (sym c.may.ensures ∙ c.if-not-may.false) c.number.ensures.reads k.2)
