-- `number` has in n what the first i of the bytes make.
-- Assumes nothing.
use Rattle.std.proofs.Common.{arith}
use Rattle.srecord.proofs.Pairs.{below_power, byte_more, none_yet, power_more}
use Rattle.srecord.proofs.records.number.Goals as goal

pub loop-pair-init : goal.loop-pair-init
loop-pair-init c = (none_yet _, omega arith)

pub overflow_mul-n : goal.overflow_mul-n
overflow_mul-n c = record { fits = omega (arith, below_power _ _ c.loop-pair.invariant.1 (omega arith)) }

pub overflow_add-n : goal.overflow_add-n
overflow_add-n c = record { fits = omega (arith, below_power _ _ c.loop-pair.invariant.1 (omega arith)) }

pub loop-pair-preserved : goal.loop-pair-preserved
loop-pair-preserved c =
    let now = c.loop-pair in (
      byte_more c.args.pairs.now now.pair-index now.n _ c.loop-pair-test.true c.byte.ensures now.invariant.0,
      power_more now.n _ now.pair-index now.invariant.1 (omega arith),
    )
