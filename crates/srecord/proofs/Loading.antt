-- What loading leaves: one result, a refused text changes no byte, bytes that no line names keep their value, and each that a line names is
-- that line's, since an accepted text names none twice.
-- Assumes nothing.
use Rattle.std.proofs.Common.{◌≡◌, ℕ, zero, suc, ◌+◌, ◌-◌, ◌<◌, ◌≤◌, Bool, true, false, cond, eqb, List, [], ◌∷◌, length, get_or, set, sym, refl, ap, ◌∙◌, true≢false, not-suc-le-zero, arith, length-set, get_or-set_other, get_or-set_same, ne_eqb, eqb-true, Option, None, Some, Result, Err}
use Rattle.std.specs.Bool.{⊤}
use mathlib.Core.Bool.{or-true}
use borrow.Author.Tests.{eqb-false}
use lib.Seq.{length-sets, sets}
use Rattle.memory.specs.Lengths.{first, refused_length}
use Rattle.srecord.specs.Load.{Loads, Verdict, end_of, judged, memory_after, writes}
use Rattle.srecord.specs.Load.{placed, record_tests, records, share, verdict, verdict_on, written_twice}
use Rattle.srecord.specs.Promises.{}
use Rattle.srecord.specs.Records.{Record, address, data_of}
use Rattle.srecord.specs.declared.Refused.{Refused}
use Rattle.srecord.proofs.Addresses.{inside, shares, written}
use Rattle.srecord.proofs.LineTests.{accepted_line}
use Rattle.srecord.proofs.Refusals.{some_number, told_determined}

module _ (text memory : List ℕ) where
  pub load_determined :
      (a b : Result ⊤ Refused) (after other : List ℕ) → Loads text memory a after → Loads text memory b other → (a ≡ b) × (after ≡ other)
  load_determined a b after other p q = (told_determined a b (p.answers ∙ sym q.answers), p.leaves ∙ sym q.leaves)

  pub refused_changes_nothing : ((verdict_on text (length memory)).number ≡ 0 → ⊥) → memory_after text memory ≡ memory
  refused_changes_nothing h = rw (ne_eqb (verdict_on text (length memory)).number 0 h)

  -- The same of any answer that the promise allows.
  pub refused_load_changes_nothing : (why : Refused) (after : List ℕ) → Loads text memory (Err why) after → after ≡ memory
  refused_load_changes_nothing why after done =
      done.leaves ∙ refused_changes_nothing (λ e. some_number why.refusal (ap (λ (v : Verdict). v.number) done.answers ∙ e))

-- Bytes behind each other: those at other addresses stay, and the others are theirs.
kept_beside :
    (vs l : List ℕ) (i a : ℕ) → (i ≤ a → a < i + length vs → ⊥) → get_or (sets l i vs) a 0 ≡ get_or l a 0
kept_beside [] l i a h = refl
kept_beside (v ∷ vs) l i a h =
    kept_beside vs (set l i v) (suc i) a (λ p q. h (omega arith) (omega arith))
    ∙ get_or-set_other l i a v 0 (λ e. h (omega arith) (omega arith))

theirs_within :
    (vs l : List ℕ) (i k : ℕ) → k < length vs → i + k < length l → get_or (sets l i vs) (i + k) 0 ≡ get_or vs k 0
theirs_within [] l i k h fits = absurd (not-suc-le-zero h)
theirs_within (v ∷ vs) l i zero h fits =
    let here : i + 0 ≡ i = omega arith in
    rw here
    (kept_beside vs (set l i v) (suc i) i (λ p q. omega arith) ∙ get_or-set_same l i v 0 (rw here at fits))
theirs_within (v ∷ vs) l i (suc k) h fits =
    let along : i + suc k ≡ suc i + k = omega arith in
    rw along
    (theirs_within vs (set l i v) (suc i) k (omega arith) (rw length-set (rw along at fits)))

length_placed : (memory : List ℕ) (ls : List (Option Record)) → length (placed memory ls) ≡ length memory
unfolding placed
length_placed memory [] = refl
length_placed memory (None ∷ rest) = length_placed memory rest
length_placed memory (Some r ∷ rest) =
    length_placed (sets memory (address r) (data_of r)) rest ∙ length-sets memory (address r) (data_of r)

-- What no line writes, placing keeps.
kept : (a : ℕ) (memory : List ℕ) (ls : List (Option Record)) → ((i : ℕ) → writes (get_or ls i None) a ≡ true → ⊥) →
    get_or (placed memory ls) a 0 ≡ get_or memory a 0
unfolding placed
kept a memory [] h = refl
kept a memory (None ∷ rest) h = kept a memory rest (λ i. h (suc i))
kept a memory (Some r ∷ rest) h =
    kept a (sets memory (address r) (data_of r)) rest (λ i. h (suc i))
    ∙ kept_beside (data_of r) memory (address r) a (λ p q. h 0 (written r a p q))

-- An accepted line passes its tests, and the rest is accepted.
line_accepted :
    (number n : ℕ) (rest : Verdict) → (cond (eqb number 0) rest (verdict number n)).number ≡ 0 → (number ≡ 0) × (rest.number ≡ 0)
line_accepted number n rest = go (eqb number 0) refl
  where
    go : (b : Bool) → eqb number 0 ≡ b → (cond b rest (verdict number n)).number ≡ 0 → (number ≡ 0) × (rest.number ≡ 0)
    go true e h = (eqb-true number 0 e, h)
    go false e h = absurd (eqb-false number 0 e h)

-- Where the lines from here on are accepted, none of them writes what an earlier one does.
apart :
    (size n a : ℕ) (s : Record) (earlier : List Record) (ls : List (Option Record)) → (judged size n earlier ls).number ≡ 0 →
    writes (Some s) a ≡ true → ((r : Record) → share r s ≡ true → written_twice r earlier ≡ true) →
    (i : ℕ) → writes (get_or ls i None) a ≡ true → ⊥
unfolding judged written_twice
apart size n a s earlier [] e w among i h = true≢false (sym h)
apart size n a s earlier (None ∷ rest) e w among i h = eqb-false 10 0 refl e
apart size n a s earlier (Some r ∷ rest) e w among zero h =
    let x = line_accepted (first (record_tests size earlier r)) n _ e in
    true≢false (sym (among r (shares r s a h w)) ∙ (accepted_line size r earlier x.0).1)
apart size n a s earlier (Some r ∷ rest) e w among (suc i) h =
    let x = line_accepted (first (record_tests size earlier r)) n _ e in
    apart size (n + 1) a s (r ∷ earlier) rest x.1 w (λ t p. rw (among t p) (or-true (share t r))) i h

theirs_here : (r : Record) (a : ℕ) (memory : List ℕ) → writes (Some r) a ≡ true → a < length memory →
    get_or (sets memory (address r) (data_of r)) a 0 ≡ get_or (data_of r) (a - address r) 0
theirs_here r a memory w fits =
    let x = inside r a w in
    let along : address r + (a - address r) ≡ a = omega arith in
    rw along at
    (theirs_within (data_of r) memory (address r) (a - address r) (omega arith) (rw along fits))

-- What an accepted line writes stands there at the end.
theirs :
    (n a : ℕ) (earlier : List Record) (ls : List (Option Record)) (memory : List ℕ) (i : ℕ) (r : Record) →
    (judged (length memory) n earlier ls).number ≡ 0 → get_or ls i None ≡ Some r → writes (Some r) a ≡ true →
    get_or (placed memory ls) a 0 ≡ get_or (data_of r) (a - address r) 0
unfolding judged placed written_twice
theirs n a earlier [] memory i r e here w = cc
theirs n a earlier (None ∷ rest) memory i r e here w = absurd (eqb-false 10 0 refl e)
theirs n a earlier (Some s ∷ rest) memory zero r e here w =
    let x = line_accepted (first (record_tests (length memory) earlier s)) n _ e in
    let same : s ≡ r = cc in
    let w' : writes (Some s) a ≡ true = rw same w in
    kept a (sets memory (address s) (data_of s)) rest
    (apart (length memory) (n + 1) a s (s ∷ earlier) rest x.1 w' (λ t p. rw p))
    ∙ theirs_here s a memory w' ((accepted_line (length memory) s earlier x.0).0 a w')
    ∙ rw same
theirs n a earlier (Some s ∷ rest) memory (suc i) r e here w =
    let x = line_accepted (first (record_tests (length memory) earlier s)) n _ e in
    theirs (n + 1) a (s ∷ earlier) rest (sets memory (address s) (data_of s)) i r
    (rw length-sets x.1)
    here
    w

module _ (text memory : List ℕ) where
  pub length_after : length (memory_after text memory) ≡ length memory
  length_after = go (eqb (verdict_on text (length memory)).number 0)
    where
      go : (accepted : Bool) → length (cond accepted (placed memory (records text)) memory) ≡ length memory
      go true = length_placed memory (records text)
      go false = refl

  pub unnamed_keeps :
      (a : ℕ) → ((i : ℕ) → writes (get_or (records text) i None) a ≡ false) → get_or (memory_after text memory) a 0 ≡ get_or memory a 0
  unnamed_keeps a unnamed = go (eqb (verdict_on text (length memory)).number 0)
    where
      go : (accepted : Bool) → get_or (cond accepted (placed memory (records text)) memory) a 0 ≡ get_or memory a 0
      go true = kept a memory (records text) (λ i h. true≢false (sym h ∙ unnamed i))
      go false = refl

  pub unnamed_keeps_in_load :
      (answer : Result ⊤ Refused) (after : List ℕ) → Loads text memory answer after → (a : ℕ) →
      ((i : ℕ) → writes (get_or (records text) i None) a ≡ false) → get_or after a 0 ≡ get_or memory a 0
  unnamed_keeps_in_load answer after done a unnamed = rw done.leaves (unnamed_keeps a unnamed)

  -- A text that is accepted: its memory has an accepted length, and each line passes.
  pub lines_accepted :
      (verdict_on text (length memory)).number ≡ 0 →
      (refused_length (length memory) ≡ 0) × ((judged (length memory) 1 [] (records text)).number ≡ 0)
  lines_accepted e = line_accepted (refused_length (length memory)) 0 _ e

  pub named_is_theirs :
      (verdict_on text (length memory)).number ≡ 0 → (i : ℕ) (r : Record) → get_or (records text) i None ≡ Some r →
      (a : ℕ) → address r ≤ a → a < end_of r → get_or (memory_after text memory) a 0 ≡ get_or (data_of r) (a - address r) 0
  named_is_theirs e i r here a low high =
      rw e (theirs 1 a [] (records text) memory i r (lines_accepted e).1 here (written r a low high))
