-- A line's parts stand one behind the other: its start, the digits of count and address, of the data and of the check byte, the line feed.
-- Assumes nothing.
use Rattle.std.proofs.Common.{sym, arith}
use Rattle.srecord.proofs.WrittenLines.{line_length, line_placed}
use Rattle.srecord.proofs.exporting.line.Goals as goal

pub returns : goal.returns
returns c =
    let a = c.args in
    record {
      places =
          line_placed a.buffer.now a.at a.start.now a.address a.bytes.now c.requires.0 c.ranges.address.fits
          (rw (c.sum-2.ensures, c.sum.ensures))
          c.pairs.ensures c.pairs-2.ensures c.pairs-3.ensures;
      ends = sym (rw (line_length a.start.now a.address a.bytes.now, c.requires.0) (omega arith));
    }
