-- Each turn adds what one read gave.
use Rattle.std.proofs.Common.{rules}
use Rattle.input.proofs.Filling.{filled_more}
use Rattle.input.proofs.read_full.Goals as goal

pub loop-done-preserved : goal.loop-done-preserved
loop-done-preserved g c =
    let before = c.loop-done.invariant in
    (search rules, search rules, filled_more _ _ _ c.loop-done.buf c.read.new.buf c.loop-done.done c.in-Ok.n before.1 before.2 c.in-Ok.ensures.bytes.0)
