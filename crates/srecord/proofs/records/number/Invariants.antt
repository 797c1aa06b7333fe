-- `number` has in n what the first i of the bytes make.
-- Assumes nothing.
use Rattle.std.proofs.Common.{◌^◌, ◌<◌}
use Rattle.srecord.proofs.Pairs.{SoFar}
use Rattle.srecord.proofs.records.number.Given as goal

abbrev pub invariant-loop-pair : goal.invariant-loop-pair
invariant-loop-pair l = SoFar l.pairs l.pair-index l.n × (l.n < 256 ^ l.pair-index)
