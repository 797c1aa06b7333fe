-- `parse` finds the line's end, its opening, and reads the digits behind it.
-- Assumes nothing.
use Rattle.std.proofs.Common.{◌≤◌, length, rules}
use Rattle.srecord.specs.Records.{record_of}
use Rattle.srecord.proofs.Placement.{whole}
use Rattle.srecord.proofs.Starts.{long_enough, narrow}
use Rattle.srecord.proofs.records.parse.Goals as goal

pub returns-in_err-line : goal.returns-in_err-line
unfolding record_of
returns-in_err-line c = rw (c.from_residual.ensures, ← c.in_err-line.ensures)

pub returns-in_err-opening : goal.returns-in_err-opening
unfolding record_of
returns-in_err-opening c = rw (c.from_residual-in_err-opening.ensures, ← c.in_ok-line.ensures, ← c.in_err-opening.ensures)

pub slice_bounds-with_bytes-count : goal.slice_bounds-with_bytes-count
slice_bounds-with_bytes-count c = long_enough c.in_ok-line.line.now c.in_ok-opening.ensures

pub slice_bounds-with_bytes-start : goal.slice_bounds-with_bytes-start
slice_bounds-with_bytes-start c =
    let long : 2 ≤ length c.in_ok-line.line.now = long_enough c.in_ok-line.line.now c.in_ok-opening.ensures in
    search rules

pub with_bytes-requires : goal.with_bytes-requires
with_bytes-requires c = narrow c.in_ok-line.line.now c.in_ok-opening.ensures

pub returns : goal.returns
unfolding record_of
returns c =
    let line = c.in_ok-line.line.now in
    rw (c.with_bytes.ensures, whole line, ← c.in_ok-line.ensures, ← c.in_ok-opening.ensures)
