-- `again_in` passes line after line: none of them wrote an address of the window again, and the marks are on what they wrote.
-- Assumes nothing.
use Rattle.std.proofs.Common.{ℕ, ◌+◌, ◌<◌, Bool, List, ◌==◌, get_or, refl, arith, rules, None}
use Rattle.std.proofs.lemmas.List.Sorted.{answers_always}
use Rattle.srecord.specs.Load.{records, writes}
use Rattle.srecord.specs.Promises.{Marks}
use Rattle.srecord.proofs.Cutting.{first_line}
use Rattle.srecord.proofs.Marking.{marks_like}
use Rattle.srecord.proofs.Repeats.{ends_here, first_here, lines_behind, lines_end, marked_again, none_passed, one_passed, writes_at}
use Rattle.srecord.proofs.twice.again_in.Goals as goal

-- What line n writes of the window: this is marked.
abbrev of_line : List ℕ → ℕ → ℕ → ℕ → Bool
of_line text n low = λ i. writes (get_or (records text) n None) (low + i)

pub loop-n-init : goal.loop-n-init
loop-n-init c =
    rw (
      c.into_iter-n-iterator.ensures.into_iter_gives,
      c.enumerate-n-items.ensures.count,
      c.enumerate-n-items.ensures.source,
      c.take.ensures.count,
      c.take.ensures.source,
      c.split_inclusive.ensures.rest,
    )
    (omega arith, refl, none_passed _ _ 28672 (omega arith))

pub returns-then-mark_line : goal.returns-then-mark_line
returns-then-mark_line c =
    let a = c.args in
    let l = c.loop-n in
    let n = l.n-iterator.count in
    let s = c.in-Some.ensures.steps in
    let t = s.0.0 in
    let cuts = first_line c.next.new.self.iter.iter.rest.now t.0 t.1.1 (t.1.2 (λ b. b == 10) (answers_always _ _ _ (λ f a r q h. search rules))).1 t.2 in
    let less : n < a.limit = omega (arith, s.0.1, l.invariant.0) in
    let marks : Marks l.marks (of_line a.text.now n a.low) c.mark_line.result c.mark_line.new.marks =
    marks_like _ c.mark_line.ensures (λ i below. writes_at _ _ _ _ n cuts l.invariant.1 c.requires.1 less c.span.result c.span.ensures _) in
    rw s.1 (first_here _ l.invariant.2 less (marked_again _ l.invariant.2 (rw c.if-mark_line.true at marks)))

pub loop-n-preserved : goal.loop-n-preserved
loop-n-preserved c =
    let a = c.args in
    let l = c.loop-n in
    let n = l.n-iterator.count in
    let s = c.in-Some.ensures.steps in
    let t = s.0.0 in
    let cuts = first_line c.next.new.self.iter.iter.rest.now t.0 t.1.1 (t.1.2 (λ b. b == 10) (answers_always _ _ _ (λ f a r q h. search rules))).1 t.2 in
    let less : n < a.limit = omega (arith, s.0.1, l.invariant.0) in
    let marks : Marks l.marks (of_line a.text.now n a.low) c.mark_line.result c.mark_line.new.marks =
    marks_like _ c.mark_line.ensures (λ i below. writes_at _ _ _ _ n cuts l.invariant.1 c.requires.1 less c.span.result c.span.ensures _) in (
      omega (arith, s.0.1, s.2, l.invariant.0),
      rw s.2 (lines_behind _ _ _ _ n cuts l.invariant.1),
      rw s.2 (one_passed _ l.invariant.2 (rw c.if-mark_line.false at marks)),
    )

pub returns : goal.returns
returns c =
    let l = c.loop-n in
    let s = c.in-None.ensures.steps in
    ends_here _ l.invariant.2 _ l.invariant.0 (λ more. lines_end _ _ _ (s.0 more).0 l.invariant.1)
