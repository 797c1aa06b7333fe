-- `span` finds the opening, and reads the count and the address behind it: of a line that is a record there are as many pairs of digits.
-- Assumes nothing.
use Rattle.std.proofs.Common.{◌≡◌, ◌≤◌, ◌+◌, ◌-◌, length, ap, ◌∙◌, drop, arith, rules, length-take}
use Rattle.srecord.specs.declared.openings.Opening.{Opening}
use Rattle.srecord.proofs.Pairs.{never}
use Rattle.srecord.proofs.Placement.{address_read, count_enough, count_seen, cut_behind, data_length, opening_same, opening_seen, pairs_enough, some_pair}
use Rattle.srecord.proofs.Starts.{long_enough, narrow}
use Rattle.srecord.proofs.records.span.Goals.{then-count-least-via-then-count-least, then-count-least-via-else-count-least+then-pairs-least}
use Rattle.srecord.proofs.records.span.Goals as goal

pub returns-in_err-opening : goal.returns-in_err-opening
returns-in_err-opening c r is = absurd (never (c.in_err-opening.ensures ∙ opening_seen c.args.line.now r is))

pub slice_bounds-as_chunks-count : goal.slice_bounds-as_chunks-count
slice_bounds-as_chunks-count c = long_enough c.args.line.now c.in_ok-opening.ensures

pub slice_bounds-as_chunks-start : goal.slice_bounds-as_chunks-start
slice_bounds-as_chunks-start c =
    let long : 2 ≤ length c.args.line.now = long_enough c.args.line.now c.in_ok-opening.ensures in
    search rules

pub returns-in_err-first : goal.returns-in_err-first
returns-in_err-first c r is =
    let line = c.args.line.now in
    let cut = cut_behind line c.as_chunks.ensures.front c.as_chunks.ensures.front_len in
    absurd (some_pair line r is cut c.in_err-first.ensures.value)

pub overflow_add-least : goal.overflow_add-least
overflow_add-least c = let few = narrow c.args.line.now c.in_ok-opening.ensures in record { fits = omega arith }

pub returns-then-count-least : goal.returns-then-count-least
returns-then-count-least c r is =
    let line = c.args.line.now in
    let cut = cut_behind line c.as_chunks.ensures.front c.as_chunks.ensures.front_len in
    let same : c.in_ok-opening.opening.width ≡ r.opening.width =
    ap (λ (o : Opening). o.width) (opening_same line r is c.in_ok-opening.ensures) in
    let seen = count_seen line r is cut _ c.in_ok-first.ensures.value c.byte-count.ensures in
    absurd
    (elim c.then-count-least.branch [
      | then-count-least-via-then-count-least w ↦ omega (arith, count_enough line r is cut _ seen, same)
      | then-count-least-via-else-count-least+then-pairs-least w ↦ omega (arith, pairs_enough line r is cut _ seen, same)
    ])

pub number-requires : goal.number-requires
number-requires c =
    let few = narrow c.args.line.now c.in_ok-opening.ensures in
    let width = c.in_ok-opening.opening.width in
    omega (arith, length-take (width + 1 - 1) (drop 1 c.as_chunks.result.0.now))

pub returns : goal.returns
returns c r is a =
    let line = c.args.line.now in
    let cut = cut_behind line c.as_chunks.ensures.front c.as_chunks.ensures.front_len in
    let same = opening_same line r is c.in_ok-opening.ensures in
    let seen = count_seen line r is cut _ c.in_ok-first.ensures.value c.byte-count.ensures in
    let from = address_read line r is cut _ seen (rw same at c.number.ensures.reads) in
    rw (from, c.data_length.ensures, same, data_length line r is cut _ seen)
