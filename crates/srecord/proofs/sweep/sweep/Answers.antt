-- What `sweep` finds of the lines that are left, with what it knows of those before, is what it finds of all.
-- Assumes nothing.
use Rattle.std.proofs.Common.{◌==◌, sym, refl, ◌∙◌, arith, rules}
use Rattle.std.proofs.lemmas.List.Sorted.{answers_always}
use Rattle.srecord.proofs.Cutting.{first_line, shorter}
use Rattle.srecord.proofs.Sweeping.{counts_on, nothing_left, passes, refused, told_at_end}
use Rattle.srecord.proofs.sweep.sweep.Goals as goal

pub loop-line-init : goal.loop-line-init
loop-line-init c =
    rw (c.none-s.ensures, c.into_iter-line-iterator.ensures.into_iter_gives, c.split_inclusive-line-items.ensures.rest) (omega arith, omega arith, refl)

pub returns-in-Err : goal.returns-in-Err
returns-in-Err c =
    let now = c.loop-line in
    let s = c.in-Some.ensures.steps in
    let cuts = first_line c.next.new.self.rest.now s.0 s.1.1 (s.1.2 (λ b. b == 10) (answers_always _ _ _ (λ f a r q h. search rules))).1 s.2 in
    let why = c.in-Err.ensures in
    sym (now.invariant.2 ∙ refused c.args.size now.n now.s _ _ _ cuts why.0 why.1)

pub loop-line-preserved : goal.loop-line-preserved
loop-line-preserved c =
    let now = c.loop-line in
    let s = c.in-Some.ensures.steps in
    let cuts = first_line c.next.new.self.rest.now s.0 s.1.1 (s.1.2 (λ b. b == 10) (answers_always _ _ _ (λ f a r q h. search rules))).1 s.2 in
    let passed = c.in-Ok.ensures in (
      omega (arith, shorter _ _ _ _ s.0 s.1.1 s.2, now.invariant.0),
      rw passed.3 (omega (arith, counts_on now.s)),
      now.invariant.2 ∙ passes c.args.size now.n now.s _ _ _ cuts passed,
    )

pub returns : goal.returns
returns c =
    let now = c.loop-line in
    rw c.at_end.ensures
    (told_at_end now.s.closed now.n now.s.ordered
    ∙ sym (now.invariant.2 ∙ nothing_left c.args.size now.n now.s _ c.in-None.ensures.steps.0))
