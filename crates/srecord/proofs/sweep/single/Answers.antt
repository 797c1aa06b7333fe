-- `single` tries the refusals in their order.
-- Assumes nothing.
use Rattle.std.proofs.Common.{sym, ◌∙◌}
use Rattle.srecord.specs.Promises.{single_tests}
use Rattle.srecord.proofs.sweep.single.Goals as goal

pub returns-then-s : goal.returns-then-s
unfolding single_tests
returns-then-s c = rw c.if-s.true

pub returns-then-not-r : goal.returns-then-not-r
unfolding single_tests
returns-then-not-r c = rw (c.if-s.false, c.if-not-r.true)

pub returns-then-outside : goal.returns-then-outside
unfolding single_tests
returns-then-outside c = rw (c.if-s.false, c.if-not-r.false, sym c.outside.ensures ∙ c.if-outside.true)

pub returns-then-wrong_number : goal.returns-then-wrong_number
unfolding single_tests
returns-then-wrong_number c =
    rw (
      c.if-s.false,
      c.if-not-r.false,
      sym c.outside.ensures ∙ c.if-outside.false,
      sym c.wrong_number.ensures ∙ c.if-wrong_number.true,
    )

pub returns : goal.returns
unfolding single_tests
returns c =
    rw (
      c.if-s.false,
      c.if-not-r.false,
      sym c.outside.ensures ∙ c.if-outside.false,
      sym c.wrong_number.ensures ∙ c.if-wrong_number.false,
    )
