-- What `pairs` has still to write, written from where it stands, is all of it written from where it began.
-- Assumes nothing.
use Rattle.std.proofs.Common.{◌<◌, ◌∙◌, get_or, arith}
use Rattle.srecord.proofs.WrittenPairs.{pairs_next, pairs_past}
use Rattle.srecord.proofs.exporting.pairs.Goals as goal

pub loop-i-preserved : goal.loop-i-preserved
loop-i-preserved c =
    let a = c.loop-i in
    let bytes = c.args.bytes.now in
    let small : get_or bytes a.i 0 < 256 = omega (arith, c.type_inv.bytes a.i) in
    pairs_next bytes a.buffer c.args.at a.i c.loop-i-test.true small c.digit.ensures c.digit-in-loop-i.ensures ∙ a.invariant

pub returns : goal.returns
returns c = pairs_past _ _ _ _ c.loop-i-test.false ∙ c.loop-i.invariant
