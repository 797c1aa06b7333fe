-- `enter` tests the pushes and the vector in document 01's order, pushes, and loads the vector.
-- Assumes nothing.
use Rattle.std.proofs.Common.{refl, rules}
use Rattle.memory.proofs.Laws.{accessible_after_store}
use Rattle.instructions.specs.Promises.{state}
use Rattle.instructions.specs.State.{State}
use Rattle.instructions.proofs.Answers.{met}
use Rattle.machine.specs.Exceptions.{below_r15}
use Rattle.machine.proofs.Entries.{enters, first_push_fails, store_done, second_push_fails, vector_fails}
use Rattle.machine.proofs.exceptions.enter.Goals as goal

pub returns-then-not-accessible : goal.returns-then-not-accessible
returns-then-not-accessible c =
    let a = c.args in
    let s : State = state a.r.now a.control.now a.memory.now in
    first_push_fails a.number a.saved a.control.now.sr s {lower = below_r15 8 s} (search rules) refl refl
    (met c.accessible.ensures c.if-not-accessible.true)

pub returns-then-not-accessible-2 : goal.returns-then-not-accessible-2
returns-then-not-accessible-2 c =
    let a = c.args in
    let s : State = state a.r.now a.control.now a.memory.now in
    second_push_fails a.number a.saved a.control.now.sr s {low = below_r15 4 s} refl (search rules) refl
    (met c.accessible-2.ensures c.if-not-accessible-2.true)

pub returns-then-not-accessible-3 : goal.returns-then-not-accessible-3
returns-then-not-accessible-3 c =
    let a = c.args in
    let s : State = state a.r.now a.control.now a.memory.now in
    vector_fails a.number a.saved a.control.now.sr s (search rules) (search rules) refl
    (met c.accessible.ensures c.if-not-accessible.false) (met c.accessible-2.ensures c.if-not-accessible-2.false)
    (met c.accessible-3.ensures c.if-not-accessible-3.true)

pub unwrap-requires : goal.unwrap-requires
unwrap-requires c = rw (store_done 4 _ _ _ c.store.ensures (met c.accessible.ensures c.if-not-accessible.false)) (search rules)

pub unwrap-requires-2 : goal.unwrap-requires-2
unwrap-requires-2 c =
    rw (store_done 4 _ _ _ c.store-2.ensures
    (rw (c.store.ensures.leaves, accessible_after_store 4 _ _ _ 4 _) (met c.accessible-2.ensures c.if-not-accessible-2.false)))
    (search rules)

pub long_at-control-requires : goal.long_at-control-requires
long_at-control-requires c =
    rw (c.store-2.ensures.leaves, accessible_after_store 4 _ _ _ 4 _, c.store.ensures.leaves, accessible_after_store 4 _ _ _ 4 _)
    (met c.accessible-3.ensures c.if-not-accessible-3.false)

pub returns : goal.returns
returns c =
    let a = c.args in
    let s : State = state a.r.now a.control.now a.memory.now in
    enters a.number a.saved a.control.now.sr s (search rules) (search rules) refl
    (met c.accessible.ensures c.if-not-accessible.false) (met c.accessible-2.ensures c.if-not-accessible-2.false)
    (met c.accessible-3.ensures c.if-not-accessible-3.false)
    c.store.ensures.leaves c.store-2.ensures.leaves c.long_at-control.ensures
