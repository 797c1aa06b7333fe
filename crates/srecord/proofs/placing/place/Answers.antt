-- What `place` has still to place, placed into the memory as it is, leaves what all lines leave.
-- Assumes nothing.
use Rattle.std.proofs.Common.{◌==◌, ◌∙◌, rules}
use Rattle.std.proofs.lemmas.List.Sorted.{answers_always}
use Rattle.srecord.proofs.Cutting.{first_line}
use Rattle.srecord.proofs.Placement.{line_placed, nothing_to_place}
use Rattle.srecord.proofs.placing.place.Goals as goal

pub loop-line-init : goal.loop-line-init
loop-line-init c = rw (c.into_iter-line-iterator.ensures.into_iter_gives, c.split_inclusive-line-items.ensures.rest)

pub loop-line-preserved : goal.loop-line-preserved
loop-line-preserved c =
    let s = c.in-Some.ensures.steps in
    let cuts = first_line c.next.new.self.rest.now s.0 s.1.1 (s.1.2 (λ b. b == 10) (answers_always _ _ _ (λ f a r q h. search rules))).1 s.2 in
    rw c.place_line.ensures (line_placed c.loop-line.memory _ _ _ cuts ∙ c.loop-line.invariant)

pub returns : goal.returns
returns c = nothing_to_place _ _ c.in-None.ensures.steps.0 ∙ c.loop-line.invariant
