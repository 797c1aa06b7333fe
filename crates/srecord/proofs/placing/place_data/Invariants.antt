-- `place_data` has written the first i of the bytes: the rest, written behind them, leaves what all of them leave.
-- Assumes nothing.
use Rattle.srecord.proofs.Placement.{StillPlaces}
use Rattle.srecord.proofs.placing.place_data.Given as goal

abbrev pub invariant-loop-i : goal.invariant-loop-i
invariant-loop-i l = StillPlaces l.pairs l.initial.memory l.address l.i l.memory
