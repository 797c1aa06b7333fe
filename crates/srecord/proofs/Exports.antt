-- Laws of `export`: which refusal is given, what is promised of one and of a text that is written, and that the promise leaves no choice.
-- Assumes nothing.
use Rattle.std.proofs.Common.{◌≡◌, ℕ, ◌+◌, ◌*◌, ◌/◌, ◌%◌, ◌<◌, ◌≤◌, Bool, true, false, cond, not, ◌||◌, eqb, ltb, List, [], ◌∷◌, ◌++◌, length, drop, sym, refl, ap, ◌∙◌, add_assoc, zero-add, length-append, ltb-false, le-ltb, lt-ltb, eq-eqb, ne_eqb, Result, Ok, Err, IfOk}
use lib.Seq.{sets, sets-eq}
use Rattle.memory.specs.Lengths.{first, length_tests, refused_length, test}
use Rattle.memory.proofs.Acceptance.{none_before}
use Rattle.srecord.specs.Export.{Exports, exported, refused_export}
use Rattle.srecord.specs.Promises.{Places}
use Rattle.srecord.specs.Load.{number_of, refusal_number}
use Rattle.srecord.specs.declared.Refusal.{Refusal}
use Rattle.srecord.proofs.WrittenPairs.{behind}
use Rattle.srecord.proofs.WrittenLines.{exported_length}
use Rattle.srecord.proofs.Refusals.{refusal_determined, some_number}

-- One text placed, and another behind it.
pub then_placed :
    (x y b : List ℕ) (at : ℕ) {m a : List ℕ} {e f : ℕ} → Places x b at m e → Places y m e a f → Places (x ++ y) b at a f
then_placed x y b at {m} {a} {e} {f} first second =
    record {
      places = second.places ∙ ap (λ (l : List ℕ). sets l e y) first.places ∙ behind b x y at first.ends;
      ends = second.ends ∙ rw (first.ends, length-append x y) (add_assoc at (length x) (length y));
    }

module _ (memory buffer : List ℕ) where
  abbrev short : Bool
  short = ltb (length buffer) (length (exported memory))

  pub length_accepted : refused_export memory buffer ≡ 0 → refused_length (length memory) ≡ 0
  length_accepted e = none_before (length_tests (length memory)) (test 16 short ∷ []) e

  room_decides : refused_length (length memory) ≡ 0 → refused_export memory buffer ≡ cond short 16 0
  room_decides e = go (not (eqb (length memory % 4) 0)) (ltb (length memory) 1024 || ltb 16777216 (length memory)) e
    where
      go :
          (ragged missized : Bool) → first (test 1 ragged ∷ test 2 missized ∷ []) ≡ 0 →
          first (test 1 ragged ∷ test 2 missized ∷ test 16 short ∷ []) ≡ cond short 16 0
      go true missized e = cc
      go false true e = cc
      go false false e = refl

  -- The room that suffices, exactly.
  pub room_exactly :
      refused_length (length memory) ≡ 0 →
      refused_export memory buffer ≡ cond (ltb (length buffer) (2 * length memory + 15 * ((length memory + 15) / 16) + 15)) 16 0
  room_exactly e = room_decides e ∙ ap (λ (n : ℕ). cond (ltb (length buffer) n) 16 0) (exported_length memory)

  -- The same of any answer that the promise allows.
  pub room_told :
      (answer : Result ℕ Refusal) (after : List ℕ) → Exports memory buffer answer after → refused_length (length memory) ≡ 0 →
      number_of answer ≡ cond (ltb (length buffer) (2 * length memory + 15 * ((length memory + 15) / 16) + 15)) 16 0
  room_told answer after done e = done.refuses ∙ room_exactly e

  pub room_refuses : refused_length (length memory) ≡ 0 → length buffer < length (exported memory) → 16 ≡ refused_export memory buffer
  room_refuses e less = sym (room_decides e ∙ ap (λ (t : Bool). cond t 16 0) (lt-ltb _ _ less))

  pub room_suffices : refused_length (length memory) ≡ 0 → length (exported memory) ≤ length buffer → 0 ≡ refused_export memory buffer
  room_suffices e enough = sym (room_decides e ∙ ap (λ (t : Bool). cond t 16 0) (le-ltb _ _ enough))

  -- A text that was written fits.
  pub text_fits : (n : ℕ) (after : List ℕ) → Exports memory buffer (Ok n) after → n ≤ length buffer
  text_fits n after done =
      let written = sym done.refuses in
      let fits : short ≡ false = go short (sym (room_decides (length_accepted written)) ∙ written) in
      rw done.counts (ltb-false (length buffer) (length (exported memory)) fits)
    where
      go : (t : Bool) → ◌≡◌ {A = ℕ} (cond t 16 0) 0 → t ≡ false
      go true e = cc
      go false e = refl

  pub refused_exports : (why : Refusal) → refusal_number why ≡ refused_export memory buffer → Exports memory buffer (Err why) buffer
  refused_exports why e =
      let text = exported memory in
      let no : eqb (refused_export memory buffer) 0 ≡ false = ne_eqb _ _ (λ none_given. some_number why (e ∙ none_given)) in
      record {
        refuses = e;
        counts = tt;
        leaves = sym (ap (λ (t : Bool). cond t (text ++ drop (length text) buffer) buffer) no);
      }

  pub accepted_exports :
      {after : List ℕ} {end : ℕ} → 0 ≡ refused_export memory buffer → length (exported memory) ≤ length buffer →
      Places (exported memory) buffer 0 after end → Exports memory buffer (Ok end) after
  accepted_exports e enough done =
      let text = exported memory in
      let n = length text in
      let yes : eqb (refused_export memory buffer) 0 ≡ true = eq-eqb _ _ (sym e) in
      let fits : 0 + n ≤ length buffer = rw (zero-add n) enough in
      record {
        refuses = e;
        counts = done.ends ∙ zero-add n;
        leaves = done.places ∙ sets-eq text buffer 0 fits ∙ ap (λ (k : ℕ). text ++ drop k buffer) (zero-add n)
            ∙ sym (ap (λ (t : Bool). cond t (text ++ drop n buffer) buffer) yes);
      }

-- Any two results that the promise allows coincide.
pub export_determined :
    (memory buffer : List ℕ) (a b : Result ℕ Refusal) (after other : List ℕ) → Exports memory buffer a after →
    Exports memory buffer b other → (a ≡ b) × (after ≡ other)
export_determined memory buffer a b after other p q =
    (go a b p.counts q.counts (p.refuses ∙ sym q.refuses), p.leaves ∙ sym q.leaves)
  where
    go :
        (a b : Result ℕ Refusal) → IfOk a (λ n. n ≡ length (exported memory)) → IfOk b (λ n. n ≡ length (exported memory)) →
        number_of a ≡ number_of b → a ≡ b
    go (Ok m) (Ok n) e f same = ap Ok (e ∙ sym f)
    go (Ok m) (Err s) e f same = absurd (some_number s (sym same))
    go (Err r) (Ok n) e f same = absurd (some_number r same)
    go (Err r) (Err s) e f same = ap Err (refusal_determined r s same)
