-- `place_line` places the data of the record that the line is, where it is one.
-- Assumes nothing.
use Rattle.std.proofs.Common.{◌≤◌, ◌+◌, length, sym, arith, length-drop, rules}
use Rattle.srecord.specs.Records.{data_of}
use Rattle.srecord.proofs.Placement.{cut_behind, data_count, data_made, room, two}
use Rattle.srecord.proofs.Sweeping.{is_known}
use Rattle.srecord.proofs.placing.place_line.Goals as goal

pub slice_bounds-as_chunks-count : goal.slice_bounds-as_chunks-count
slice_bounds-as_chunks-count c =
    let k = is_known _ c.in-Some.ensures in
    two _ k.0 k.1

pub slice_bounds-as_chunks-start : goal.slice_bounds-as_chunks-start
slice_bounds-as_chunks-start c =
    let k = is_known _ c.in-Some.ensures in
    let long : 2 ≤ length c.args.line.now = two _ k.0 k.1 in
    search rules

pub overflow_add-from : goal.overflow_add-from
overflow_add-from c =
    let k = is_known _ c.in-Some.ensures in
    let h = room _ k.0 k.1 (cut_behind c.args.line.now c.as_chunks.ensures.front c.as_chunks.ensures.front_len) in
    rw (← k.2) (record { fits = omega (arith, h) })

pub overflow_add-from-in-Some : goal.overflow_add-from-in-Some
overflow_add-from-in-Some c =
    let k = is_known _ c.in-Some.ensures in
    let h = room _ k.0 k.1 (cut_behind c.args.line.now c.as_chunks.ensures.front c.as_chunks.ensures.front_len) in
    rw (← k.2) (record { fits = omega (arith, h) })

pub offset_bounds-pairs-from : goal.offset_bounds-pairs-from
offset_bounds-pairs-from c =
    let k = is_known _ c.in-Some.ensures in
    let cut = cut_behind c.args.line.now c.as_chunks.ensures.front c.as_chunks.ensures.front_len in
    let h = room _ k.0 k.1 cut in
    rw (← k.2) (record { fits = omega (arith, h, cut.many, length-drop 2 c.args.line.now) })

pub slice_bounds-place_data-end : goal.slice_bounds-place_data-end
slice_bounds-place_data-end c =
    let k = is_known _ c.in-Some.ensures in
    let h = room _ k.0 k.1 (cut_behind c.args.line.now c.as_chunks.ensures.front c.as_chunks.ensures.front_len) in
    let inside : c.in-Some.r.opening.width + 1 + c.in-Some.r.length ≤ length c.as_chunks.result.0.now = rw (← k.2) h in
    search rules

pub returns-in-Some : goal.returns-in-Some
returns-in-Some c =
    let line = c.args.line.now in
    let k = is_known _ c.in-Some.ensures in
    let cut = cut_behind line c.as_chunks.ensures.front c.as_chunks.ensures.front_len in
    let places = rw (← k.2) at c.place_data.ensures in
    rw k.1 (places (data_of k.0) (sym (data_count line k.0 k.1 cut)) (data_made line k.0 k.1 cut))
