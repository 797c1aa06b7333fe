-- Laws of the calls: when one is refused and what it then answers, what an accepted memory has, that a step is a run with budget 1, and
-- that no promise leaves a choice.
-- Assumes nothing.
use Rattle.std.proofs.Common.{◌≡◌, ℕ, ◌+◌, ◌%◌, ◌≤◌, Bool, true, false, cond, not, ◌||◌, eqb, ltb, List, [], ◌∷◌, length, sym, refl, ap, ◌∙◌, arith, eq-eqb, ne_eqb, eqb-true, le-leb}
use Rattle.std.specs.Prelude.{Result, Ok, Err}
use borrow.Author.Tests.{not-false}
use Rattle.instructions.specs.State.{masked}
use Rattle.memory.specs.Access.{accessible}
use Rattle.memory.specs.Lengths.{Test, first, length_tests, refused_length, test}
use Rattle.memory.proofs.Acceptance.{accepted_size, none_before}
use Rattle.machine.specs.Calls.{Called, Resets, Runs, Steps, called, refusal_number, refused, run_call, step_call}
use Rattle.machine.specs.Situation.{Situation, machine_of, over}
use Rattle.machine.specs.Run.{one_more, run, still, stepped}
use Rattle.machine.specs.Step.{halted, step}
use Rattle.machine.specs.declared.Answer.{Answer}
use Rattle.machine.specs.declared.Machine.{Machine}
use Rattle.machine.specs.declared.Refusal.{Refusal}
use Rattle.machine.specs.declared.Refusal.TheVariants.{Ragged, Size, Status}
use Rattle.machine.specs.declared.Refused.{Refused}

-- No refusal has the number 0.
pub refuses : (why : Refusal) → refusal_number why ≡ 0 → ⊥
refuses Ragged e = omega arith
refuses Size e = omega arith
refuses Status e = omega arith

module _ (m : Machine) (memory : List ℕ) where
  abbrev unmasked : Bool
  unmasked = not (eqb (masked m.control.sr) m.control.sr)

  abbrev status : List Test
  status = test 3 unmasked ∷ []

  status_left : refused_length (length memory) ≡ 0 → first status ≡ refused m memory
  status_left e = go (not (eqb (length memory % 4) 0)) (ltb (length memory) 1024 || ltb 16777216 (length memory)) e
    where
      go :
          (ragged missized : Bool) → first (test 1 ragged ∷ test 2 missized ∷ []) ≡ 0 →
          first status ≡ first (test 1 ragged ∷ test 2 missized ∷ status)
      go true missized e = cc
      go false true e = cc
      go false false e = refl

  -- What an accepted call says of the memory and of SR, and the other way round.
  pub memory_accepted : refused m memory ≡ 0 → refused_length (length memory) ≡ 0
  memory_accepted e = none_before (length_tests (length memory)) status e

  pub mask_passed : refused m memory ≡ 0 → masked m.control.sr ≡ m.control.sr
  mask_passed e = eqb-true _ _ (not-false _ (go unmasked (status_left (memory_accepted e) ∙ e)))
    where
      go : (given : Bool) → first (test 3 given ∷ []) ≡ 0 → given ≡ false
      go true e = cc
      go false e = refl

  pub accepted : refused_length (length memory) ≡ 0 → masked m.control.sr ≡ m.control.sr → refused m memory ≡ 0
  accepted e passes = sym (status_left e) ∙ ap (λ (passed : Bool). first (test 3 (not passed) ∷ [])) (eq-eqb _ _ passes)

-- The two longs of a reset lie inside.
pub accepted_opens :
    (memory : List ℕ) → refused_length (length memory) ≡ 0 → (accessible 4 memory 0 ≡ true) × (accessible 4 memory 4 ≡ true)
unfolding accessible
accepted_opens memory e =
    let n = length memory in
    let room : 1024 ≤ n = (accepted_size n e).0 in
    let first : 0 + 4 ≤ n = omega (arith, room) in
    let second : 4 + 4 ≤ n = omega (arith, room) in
    (le-leb (0 + 4) n first, le-leb (4 + 4) n second)

-- The PC's long and R15's, each by itself.
pub pc_opens : (memory : List ℕ) → refused_length (length memory) ≡ 0 → accessible 4 memory 0 ≡ true
pc_opens memory e = (accepted_opens memory e).0

pub r15_opens : (memory : List ℕ) → refused_length (length memory) ≡ 0 → accessible 4 memory 4 ≡ true
r15_opens memory e = (accepted_opens memory e).1

pub step_is_a_run_of_1 : (x : Situation) → run 1 x ≡ stepped x
unfolding run step
step_is_a_run_of_1 x = go (halted x) _
  where
    go : (h : Bool) (y : Situation) → cond h (still x) (one_more (still (cond h x y))) ≡ record { after = cond h x y; steps = cond h 0 1 }
    go true y = refl
    go false y = refl

pub step_call_is_a_run_call_of_1 : (m : Machine) (memory : List ℕ) → run_call 1 m memory ≡ step_call m memory
step_call_is_a_run_call_of_1 m memory = rw (step_is_a_run_of_1 (over m memory))

-- Any two results that a promise allows coincide: what a call comes to tells the answer and the memory.
refusal_of : ℕ → Refusal
refusal_of number = cond (eqb number (refusal_number Ragged)) Ragged (cond (eqb number (refusal_number Size)) Size Status)

refusal_told : (why : Refusal) → refusal_of (refusal_number why) ≡ why
unfolding refusal_of
refusal_told Ragged = refl
refusal_told Size = refl
refusal_told Status = refl

answer_of : Called → Result Answer Refused
answer_of c =
    let m = machine_of c.ran.after in
    cond (eqb c.refusal 0) (Ok (record { machine = m; steps = c.ran.steps }))
    (Err (record { refusal = refusal_of c.refusal; machine = m }))

answer_told : (a : Result Answer Refused) (memory : List ℕ) → answer_of (called a memory) ≡ a
unfolding answer_of
answer_told (Ok a) memory = refl
answer_told (Err why) memory =
    rw (ne_eqb _ _ (refuses why.refusal)) (ap (λ r. Err (record { refusal = r; machine = why.machine })) (refusal_told why.refusal))

pub memory_told : (a : Result Answer Refused) (memory : List ℕ) → (called a memory).ran.after.state.memory ≡ memory
memory_told (Ok a) memory = refl
memory_told (Err why) memory = refl

one_result :
    {promised : Called} (a b : Result Answer Refused) (after other : List ℕ) → called a after ≡ promised →
    called b other ≡ promised → (a ≡ b) × (after ≡ other)
one_result a b after other p q = (
  sym (answer_told a after) ∙ ap answer_of (p ∙ sym q) ∙ answer_told b other,
  sym (memory_told a after) ∙ ap (λ (c : Called). c.ran.after.state.memory) (p ∙ sym q) ∙ memory_told b other,
)

pub reset_determined : (memory : List ℕ) (a b : Result Answer Refused) → Resets memory a → Resets memory b → a ≡ b
reset_determined memory a b p q = (one_result a b memory memory p q).0

pub step_determined :
    (m : Machine) (memory : List ℕ) (a b : Result Answer Refused) (after other : List ℕ) → Steps m memory a after →
    Steps m memory b other → (a ≡ b) × (after ≡ other)
step_determined m memory = one_result

pub run_determined :
    (budget : ℕ) (m : Machine) (memory : List ℕ) (a b : Result Answer Refused) (after other : List ℕ) → Runs budget m memory a after →
    Runs budget m memory b other → (a ≡ b) × (after ≡ other)
run_determined budget m memory = one_result
