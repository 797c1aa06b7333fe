-- The lines that `data_lines` has still to write, written from where it stands, are all of them written from where it began.
-- Assumes nothing.
use Rattle.std.proofs.Common.{◌≡◌, ◌+◌, ◌-◌, ◌*◌, length, drop}
use lib.Seq.{sets}
use Rattle.srecord.specs.Export.{memory_lines}
use Rattle.srecord.proofs.WrittenLines.{lines_from, lines_length}
use Rattle.srecord.proofs.exporting.data_lines.Given as goal

abbrev pub invariant-loop-i : goal.invariant-loop-i
invariant-loop-i l =
    let at = 16 * l.i-iterator.count in
    (l.i-iterator.iter.size ≡ 16)
    × (l.i-iterator.iter.rest.now ≡ drop at l.memory)
    × (l.place + lines_length (length l.memory - at) ≡ lines_length (length l.memory))
    × (sets l.buffer l.place (lines_from l.memory at) ≡ sets l.initial.buffer 0 (memory_lines l.memory))
