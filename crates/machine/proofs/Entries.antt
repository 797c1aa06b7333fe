-- The ways that the entry of an exception can go, each from the accesses that it makes.
-- Assumes nothing.
use Rattle.std.specs.Prelude.{Result, Ok, ⊤}
use Rattle.std.proofs.Common.{◌≡◌, ℕ, Bool, true, false, cond, not, ◌||◌, eqb, List, [], ◌∷◌, sym, refl, ap, ◌∙◌}
use Rattle.memory.specs.Access.{accessible, answered, stored_at, value_at, written, Stores}
use Rattle.memory.specs.declared.access.Fault.{Fault}
use Rattle.memory.specs.Lengths.{first, test}
use Rattle.memory.proofs.Laws.{accessible_after_store, store_writes}
use Rattle.instructions.specs.State.{State, changed, with_memory, with_pc, with_reg, with_sr}
use Rattle.machine.specs.declared.Mode.TheVariants.{Running}
use Rattle.machine.specs.Situation.{at, stopped}
use Rattle.machine.specs.Exceptions.{below_r15, enter, entered, entry_tests, pushed, vector}
use Rattle.machine.specs.Longs.{mode_value}

second_fails : (a : Bool) → a || true ≡ true
second_fails true = refl
second_fails false = refl

-- The two stores of an entry, where both can be made.
pushes :
    (saved : ℕ) (s : State) {first second : List ℕ} → accessible 4 s.memory (below_r15 4 s) ≡ true →
    accessible 4 s.memory (below_r15 8 s) ≡ true → first ≡ stored_at 4 s.memory (below_r15 4 s) s.control.sr →
    second ≡ stored_at 4 first (below_r15 8 s) saved → second ≡ pushed saved s
pushes saved s {first} {second} a b e f =
    let sr-pushed : first ≡ written 4 s.memory (below_r15 4 s) s.control.sr = e ∙ store_writes 4 _ _ _ a in
    let opens : accessible 4 first (below_r15 8 s) ≡ true = rw (e, accessible_after_store 4 _ _ _ 4 _) b in
    f ∙ store_writes 4 first (below_r15 8 s) saved opens ∙ ap (λ (m : List ℕ). written 4 m (below_r15 8 s) saved) sr-pushed

module _
    (number saved sr : ℕ) (s : State) {low lower from : ℕ}
    (is-low : low ≡ below_r15 4 s) (is-lower : lower ≡ below_r15 8 s) (is-from : from ≡ vector number s) where
  abbrev opens : ℕ → Bool
  opens address = accessible 4 s.memory address

  pub first_push_fails : opens low ≡ false → enter number saved sr s ≡ at (stopped 1) s
  unfolding enter
  first_push_fails a = rw (sym is-low, a)

  pub second_push_fails : opens lower ≡ false → enter number saved sr s ≡ at (stopped 1) s
  unfolding enter
  second_push_fails b = rw (sym is-lower, b, second_fails (not (opens (below_r15 4 s))))

  pub vector_fails : opens low ≡ true → opens lower ≡ true → opens from ≡ false → enter number saved sr s ≡ at (stopped 2) s
  unfolding enter
  vector_fails a b e = rw (sym is-low, sym is-lower, sym is-from, a, b, e)

  pub enters :
      {pc : ℕ} {first second : List ℕ} → opens low ≡ true → opens lower ≡ true → opens from ≡ true →
      first ≡ stored_at 4 s.memory low s.control.sr → second ≡ stored_at 4 first lower saved → pc ≡ value_at 4 second from →
      enter number saved sr s ≡
      at Running (changed (λ c. with_sr sr (with_pc pc c)) (with_memory second (with_reg 15 lower s)))
  unfolding enter
  enters a b e one two read =
      let a' : opens (below_r15 4 s) ≡ true = rw (sym is-low) a in
      let b' : opens (below_r15 8 s) ≡ true = rw (sym is-lower) b in
      let e' : opens (vector number s) ≡ true = rw (sym is-from) e in
      rw (a', b', e', read, pushes saved s a' b' (rw is-low at one) (rw is-lower at two), is-from, is-lower)

-- The stop reasons by document 01's numbers.
pub entry_numbered : (number saved sr : ℕ) (s : State) → mode_value (enter number saved sr s).mode ≡ first (entry_tests number s)
unfolding enter
entry_numbered number saved sr s =
    go (not (accessible 4 s.memory (below_r15 4 s)) || not (accessible 4 s.memory (below_r15 8 s)))
    (not (accessible 4 s.memory (vector number s)))
  where
    go :
        (push vector : Bool) →
        let reason = first (test 1 push ∷ test 2 vector ∷ []) in
        mode_value (cond (eqb reason 0) (entered number saved sr s) (at (stopped reason) s)).mode ≡ reason
    go true vector = refl
    go false true = refl
    go false false = refl

-- A store that can be made is done.
pub store_done :
    (k : ℕ) (memory : List ℕ) (address value : ℕ) {answer : Result ⊤ Fault} {after : List ℕ} →
    Stores k memory address value answer after → accessible k memory address ≡ true → answer ≡ Ok tt
unfolding answered
store_done k memory address value promise can = rw (promise.answers, can)
