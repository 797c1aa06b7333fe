-- What `place` has still to place, placed into the memory as it is, leaves what all lines leave.
-- Assumes nothing.
use Rattle.std.proofs.Common.{◌≡◌}
use Rattle.srecord.specs.Load.{placed, records}
use Rattle.srecord.proofs.placing.place.Given as goal

abbrev pub invariant-loop-line : goal.invariant-loop-line
invariant-loop-line l = placed l.memory (records l.line-iterator.rest.now) ≡ placed l.initial.memory (records l.text)
