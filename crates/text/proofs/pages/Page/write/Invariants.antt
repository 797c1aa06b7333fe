-- `write` has written the bytes before the one that it is at.
-- Assumes nothing.
use Rattle.std.proofs.Common.{take}
use Rattle.text.specs.Writing.{Writes}
use Rattle.text.proofs.pages.Page.write.Given as goal

abbrev pub invariant-loop-byte : goal.invariant-loop-byte
invariant-loop-byte l = Writes (take l.byte-index l.text) l.fn.self l.self
