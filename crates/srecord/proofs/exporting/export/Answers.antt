-- `export` tries the memory's length, and then the room that the text needs; the text is its data lines and the closing line behind them.
-- Assumes nothing.
use Rattle.std.proofs.Common.{◌≡◌, ◌+◌, ◌/◌, ◌≤◌, length, sym, refl, le_trans, le-add_right, zero-add, lit≤}
use lib.Seq.{length-sets}
use Rattle.memory.proofs.Acceptance.{accepted_size}
use Rattle.memory.specs.Lengths.{refused_length}
use Rattle.srecord.specs.Export.{exported}
use Rattle.srecord.specs.declared.Refusal.TheVariants.{Room}
use Rattle.srecord.proofs.Exports.{accepted_exports, refused_exports, room_refuses, room_suffices, then_placed}
use Rattle.srecord.proofs.WrittenLines.{exported_length, lines_length, s3_lines_length}
use Rattle.srecord.proofs.exporting.export.Goals as goal

pub returns-then-buffer-n : goal.returns-then-buffer-n
returns-then-buffer-n c =
    let m = c.args.memory.now in
    let b = c.args.buffer.now in
    let accepted : refused_length (length m) ≡ 0 = sym c.in_ok-check_length.ensures in
    refused_exports _ _ Room (room_refuses m b accepted (rw (exported_length m) c.if-buffer-n.true))

pub data_lines-place-requires : goal.data_lines-place-requires
data_lines-place-requires c =
    let m = c.args.memory.now in
    let accepted : refused_length (length m) ≡ 0 = sym c.in_ok-check_length.ensures in (
      (accepted_size _ accepted).1,
      rw (s3_lines_length ((length m + 15) / 16) 0 m refl) (le_trans (le-add_right _ 15) c.if-buffer-n.false),
    )

pub line-requires : goal.line-requires
line-requires c =
    let m = c.args.memory.now in
    let p = c.data_lines-place.ensures in (
      refl,
      lit≤ tt,
      rw (p.places, length-sets, p.ends, s3_lines_length ((length m + 15) / 16) 0 m refl, zero-add (lines_length (length m)))
          c.if-buffer-n.false,
    )

pub returns : goal.returns
unfolding exported
returns c =
    let m = c.args.memory.now in
    let b = c.args.buffer.now in
    let accepted : refused_length (length m) ≡ 0 = sym c.in_ok-check_length.ensures in
    let enough : length (exported m) ≤ length b = rw (exported_length m) c.if-buffer-n.false in
    accepted_exports m b (room_suffices m b accepted enough) enough (then_placed _ _ b 0 c.data_lines-place.ensures c.line.ensures)
