-- `place_data` has written the first i of the bytes: the rest, written behind them, leaves what all of them leave.
-- Assumes nothing.
use Rattle.srecord.proofs.Placement.{one_placed}
use Rattle.srecord.proofs.placing.place_data.Goals as goal

pub loop-i-preserved : goal.loop-i-preserved
loop-i-preserved c =
    let a = c.args in
    let now = c.loop-i in
    rw c.put.ensures
    (one_placed a.pairs.now a.memory.now a.address now.i now.memory now.invariant c.byte.result c.loop-i-test.true c.byte.ensures)
