-- The refusal that one sweep and the search for an address written twice find is the definition's: `judged` tries each line against all
-- earlier ones, `swept` each by itself, so they part only at a line that writes an address again.
-- Assumes nothing.
use Rattle.std.proofs.Common.{◌≡◌, ℕ, zero, suc, ◌+◌, ◌<◌, ◌≤◌, Bool, true, false, cond, ◌||◌, eqb, ltb, leb, ◌↔◌, List, [], ◌∷◌, length, get_or, sym, refl, ap, ◌∙◌, true≢false, le_refl, not-suc-le-zero, lt_irrefl, arith, below_more, ltb-false, ltb-true, le-ltb, lt-ltb, eqb-true, leb-true, Option, None, Some}
use mathlib.Core.Bool.{and-eq-true_iff, or-true}
use Rattle.srecord.specs.Load.{Verdict, closed, data_lines, end_of, judged, kind_of, share, verdict, writes, written_twice}
use Rattle.srecord.specs.Promises.{Again, AllRead, Finding, FirstAgain, Once, finding, fresh, noted, summary, swept}
use Rattle.srecord.specs.Records.{Record, address, data_of, is_data}
use Rattle.srecord.specs.declared.sweep.SoFar.{SoFar}
use Rattle.srecord.proofs.Addresses.{inside, shared, shares}
use Rattle.srecord.proofs.LineTests.{alone, below, refusal}

passed_from : (size n : ℕ) (s : SoFar) (ls : List (Option Record)) → n ≤ (swept size n s ls).passed
unfolding swept
passed_from size n s [] = le_refl n
passed_from size n s (None ∷ rest) = le_refl n
passed_from size n s (Some r ∷ rest) =
    let number = alone size r s.closed s.count in
    go (eqb number 0) number _ (passed_from size (n + 1) (noted s (summary r)) rest)
  where
    go :
        (b : Bool) (number : ℕ) (f : Finding) → n + 1 ≤ f.passed → n ≤ (cond b f (finding number (n + 1) n s.ordered)).passed
    go true number f h = omega arith
    go false number f h = le_refl n

reads_from :
    (size n : ℕ) (s : SoFar) (ls : List (Option Record)) (i : ℕ) → n + i < (swept size n s ls).passed → get_or ls i None ≡ None → ⊥
unfolding swept
reads_from size n s [] i less e = omega arith
reads_from size n s (None ∷ rest) i less e = omega arith
reads_from size n s (Some r ∷ rest) zero less e = let z : ◌≡◌ {A = ℕ} 0 1 = cc in omega arith
reads_from size n s (Some r ∷ rest) (suc i) less e =
    let number = alone size r s.closed s.count in
    go (eqb number 0) number _ (λ h. reads_from size (n + 1) (noted s (summary r)) rest i h e) less
  where
    go :
        (b : Bool) (number : ℕ) (f : Finding) → (n + 1 + i < f.passed → ⊥) →
        n + suc i < (cond b f (finding number (n + 1) n s.ordered)).passed → ⊥
    go true number f below less = below (omega arith)
    go false number f below less = omega arith

module _ (size : ℕ) (ls : List (Option Record)) where
  abbrev line : ℕ → Option Record
  line i = get_or ls i None

  -- One of the first n lines writes an address that r writes.
  abbrev Meets : ℕ → Record → Type 0
  Meets n r = (a : ℕ) × (i : ℕ) × (i < n) × (writes (Some r) a ≡ true) × (writes (line i) a ≡ true)

  -- `earlier` stands for the first n lines.
  abbrev Before : ℕ → List Record → Type 0
  Before n earlier = (r : Record) → written_twice r earlier ≡ true ↔ Meets n r

  before_first : Before 0 []
  unfolding written_twice
  before_first r = (λ e. absurd (let z : ◌≡◌ {A = ℕ} 0 1 = cc in omega arith), λ x. absurd (omega (arith, x.2)))

  one_more : (n : ℕ) (earlier : List Record) (s : Record) → line n ≡ Some s → Before n earlier → Before (n + 1) (s ∷ earlier)
  unfolding written_twice
  one_more n earlier s here before r = (told (share r s) refl, λ x. tells (ltb x.1 n) x refl)
    where
      told : (b : Bool) → share r s ≡ b → (b || written_twice r earlier) ≡ true → Meets (n + 1) r
      told true e h = let x = shared r s e in (x.0, n, omega arith, x.1, rw here x.2)
      told false e h = let x = (before r).0 h in (x.0, x.1, omega arith, x.3, x.4)

      tells : (b : Bool) (x : Meets (n + 1) r) → ltb x.1 n ≡ b → (share r s || written_twice r earlier) ≡ true
      tells true x e = rw ((before r).1 (x.0, x.1, ltb-true _ n e, x.3, x.4)) (or-true (share r s))
      tells false x e =
          let last : x.1 ≡ n = omega (arith, ltb-false x.1 n e) in
          rw (shares r s x.0 x.3 (rw (last, here) at x.4))

  -- What is known before line n, the first of `rest`: `earlier` are the records of the lines before it, and s what the sweep noted of them.
  record Reached (n : ℕ) (s : SoFar) (earlier : List Record) (rest : List (Option Record)) : Type 0 where
    rests : (i : ℕ) → get_or rest i None ≡ line (n + i)
    before : Before n earlier
    shut : s.closed ≡ closed earlier
    counted : s.count ≡ data_lines earlier

  next :
      (n : ℕ) (s : SoFar) (earlier : List Record) (r : Record) (rest : List (Option Record)) → Reached n s earlier (Some r ∷ rest) →
      Reached (n + 1) (noted s (summary r)) (r ∷ earlier) rest
  unfolding noted closed data_lines
  next n s earlier r rest x =
      record {
        rests = λ i. x.rests (suc i) ∙ ap line (omega arith);
        before = one_more n earlier r (sym (x.rests 0 ∙ ap line (omega arith))) x.before;
        shut = rw x.shut;
        counted = rw x.counted (go (is_data (kind_of r)));
      }
    where
      go : (b : Bool) → cond b (data_lines earlier + 1) (data_lines earlier) ≡ cond b 1 0 + data_lines earlier
      go true = omega arith
      go false = omega arith

  module _ (k : ℕ) (f : Finding) (w : FirstAgain ls f.passed 0 size k) where
    answer : Verdict
    answer = cond (ltb k f.passed) (verdict 13 (k + 1)) (verdict f.number f.line)

    -- A sweep that stops at line n answers what it found.
    stopped :
        (n number line : ℕ) (ordered : Bool) → n ≤ k → f ≡ finding number line n ordered → verdict number line ≡ answer
    unfolding answer
    stopped n number line ordered low e =
        let here : f.passed ≡ n = ap (λ (f : Finding). f.passed) e in
        let all : f.passed ≤ k = omega arith in
        rw (le-ltb k f.passed all, ap (λ (f : Finding). f.number) e, ap (λ (f : Finding). f.line) e)

    -- One line, by its refusal by itself.
    step :
        (n : ℕ) (s : SoFar) (earlier : List Record) (r : Record) (rest : List (Option Record)) →
        Reached n s earlier (Some r ∷ rest) → n ≤ k → f ≡ swept size n s (Some r ∷ rest) →
        (n + 1 ≤ k → f ≡ swept size (n + 1) (noted s (summary r)) rest → judged size (n + 1 + 1) (r ∷ earlier) rest ≡ answer) →
        judged size (n + 1) earlier (Some r ∷ rest) ≡ answer
    unfolding swept judged answer
    step n s earlier r rest x low e later =
        rw (refusal size r earlier (λ t. let m = (x.before r).0 t in (m.0, m.3)))
        (rw (← x.shut, ← x.counted) (go (eqb number 0) (written_twice r earlier) refl refl e))
      where
        number : ℕ
        number = alone size r s.closed s.count

        here : line n ≡ Some r
        here = sym (x.rests 0 ∙ ap line (omega arith))

        further : f ≡ swept size (n + 1) (noted s (summary r)) rest → n + 1 ≤ f.passed
        further found = rw found (passed_from size (n + 1) (noted s (summary r)) rest)

        -- Before line k none writes an address again, and line k does.
        twice_before : Meets n r → number ≡ 0 → n < k → ⊥
        twice_before m e less =
            let fits = below size r s.closed s.count m.0 e m.3 in
            w.once m.1 n m.0 m.2 less (omega arith) fits m.4 (rw here m.3)

        again : k ≡ n → Again ls k → written_twice r earlier ≡ false → ⊥
        again last y once =
            let m : Meets n r = (y.address, y.earlier, omega (arith, y.before), rw (last, here) at y.second, y.first) in
            true≢false (sym ((x.before r).1 m) ∙ once)

        go :
            (passes twice : Bool) → eqb number 0 ≡ passes → written_twice r earlier ≡ twice →
            f ≡ cond passes (swept size (n + 1) (noted s (summary r)) rest) (finding number (n + 1) n s.ordered) →
            let refused = cond passes (cond twice 13 0) number in
            cond (eqb refused 0) (judged size (n + 1 + 1) (r ∷ earlier) rest) (verdict refused (n + 1)) ≡ answer
        go false twice e t found = rw e (stopped n number (n + 1) s.ordered low found)
        go true true e t found =
            let m = (x.before r).0 t in
            let last : n ≡ k = omega (arith, twice_before m (eqb-true number 0 e)) in
            let fits : k < f.passed = omega (arith, further found) in
            rw (lt-ltb k f.passed fits, last)
        go true false e t found =
            let unless : k ≡ n → ⊥ = λ last. again last (w.again (omega (arith, further found))) t in
            later (omega arith) found

    walk :
        (rest : List (Option Record)) (n : ℕ) (s : SoFar) (earlier : List Record) → Reached n s earlier rest → n ≤ k →
        f ≡ swept size n s rest → judged size (n + 1) earlier rest ≡ answer
    unfolding swept judged
    walk [] n s earlier x low e = rw (← x.shut) (go s.closed e)
      where
        go : (shut : Bool) → f ≡ finding (cond shut 0 15) 0 n s.ordered → cond shut (verdict 0 0) (verdict 15 0) ≡ answer
        go true e = stopped n 0 0 s.ordered low e
        go false e = stopped n 15 0 s.ordered low e
    walk (None ∷ rest) n s earlier x low e = stopped n 10 (n + 1) s.ordered low e
    walk (Some r ∷ rest) n s earlier x low e =
        step n s earlier r rest x low e
        (walk rest (n + 1) (noted s (summary r)) (r ∷ earlier) (next n s earlier r rest x))

-- Lines whose data stand in order write no address twice: each begins at or behind the end of all before it.
module _ (ls : List (Option Record)) (low high : ℕ) where
  abbrev at : ℕ → Option Record
  at i = get_or ls i None

  abbrev InOrder : ℕ → SoFar → Type 0
  InOrder n s = s.ordered ≡ true → ((i a : ℕ) → i < n → writes (at i) a ≡ true → a < s.top) × Once ls n low high

  -- Where the data end behind one line more.
  abbrev top : SoFar → Record → Bool → ℕ
  top s r empty = cond empty s.top (end_of r)

  still_in_order : (n : ℕ) (s : SoFar) (r : Record) → at n ≡ Some r → InOrder n s → InOrder (n + 1) (noted s (summary r))
  unfolding noted
  still_in_order n s r here x o =
      let both = (and-eq-true_iff s.ordered (eqb (length (data_of r)) 0 || leb s.top (address r))).0 o in
      let y = x both.0 in
      let z = go (eqb (length (data_of r)) 0) refl both.1 in (
        λ i a h. below_more (λ (i : ℕ). writes (at i) a ≡ true → a < top s r (eqb (length (data_of r)) 0)) n
            (λ i h w. omega (arith, y.0 i a h w, z.0))
            (λ w. (z.1 a (rw here at w)).1)
            i
            h,
        λ i j a h k l u. below_more (λ (j : ℕ). i < j → writes (at i) a ≡ true → writes (at j) a ≡ true → ⊥) n
            (λ j k h p q. y.1 i j a h k l u p q)
            (λ h p q. omega (arith, y.0 i a h p, (z.1 a (rw here at q)).0))
            j
            k
            h,
      )
    where
      go :
          (empty : Bool) → eqb (length (data_of r)) 0 ≡ empty → (empty || leb s.top (address r)) ≡ true →
          (s.top ≤ top s r empty) × ((a : ℕ) → writes (Some r) a ≡ true → (s.top ≤ a) × (a < top s r empty))
      go true e o = (le_refl s.top, λ a w. let v = inside r a w in absurd (omega (arith, eqb-true (length (data_of r)) 0 e)))
      go false e o = let rises = leb-true s.top (address r) o in (omega arith, λ a w. let v = inside r a w in (omega arith, omega arith))

  sweep_in_order :
      (size : ℕ) (rest : List (Option Record)) (n : ℕ) (s : SoFar) → ((i : ℕ) → get_or rest i None ≡ at (n + i)) → InOrder n s →
      (swept size n s rest).ordered ≡ true → Once ls (swept size n s rest).passed low high
  unfolding swept
  sweep_in_order size [] n s rests x o = (x o).1
  sweep_in_order size (None ∷ rest) n s rests x o = (x o).1
  sweep_in_order size (Some r ∷ rest) n s rests x o =
      let number = alone size r s.closed s.count in
      go (eqb number 0) number _
      (sweep_in_order size rest (n + 1) (noted s (summary r)) (λ i. rests (suc i) ∙ ap at (omega arith))
      (still_in_order n s r (sym (rests 0 ∙ ap at (omega arith))) x))
      o
    where
      go :
          (passes : Bool) (number : ℕ) (f : Finding) → (f.ordered ≡ true → Once ls f.passed low high) →
          let g = cond passes f (finding number (n + 1) n s.ordered) in g.ordered ≡ true → Once ls g.passed low high
      go true number f later = later
      go false number f later = λ o. (x o).1

-- What one sweep finds, in these terms.
module _ (size : ℕ) (ls : List (Option Record)) (f : Finding) (sweeps : f ≡ swept size 0 fresh ls) where
  from_first : (i : ℕ) → get_or ls i None ≡ get_or ls (0 + i) None
  from_first i = ap (λ (i : ℕ). get_or ls i None) (omega arith)

  -- The lines passed are records.
  pub all_read : AllRead ls f.passed
  all_read i less e = reads_from size 0 fresh ls i (rw (← sweeps) (omega arith)) e

  -- Of all addresses, wherever they lie.
  pub ordered_once : (high : ℕ) → f.ordered ≡ true → Once ls f.passed 0 high
  ordered_once high =
      rw sweeps
      (sweep_in_order ls 0 high size ls 0 fresh from_first
      (λ o. (λ i a h. absurd (not-suc-le-zero h), λ i j a h k. absurd (not-suc-le-zero k))))

  -- The definition's verdict, from what the sweep finds and the first line that writes an address again.
  pub verdict_found :
      (n : ℕ) → FirstAgain ls f.passed 0 size n →
      judged size 1 [] ls ≡ cond (ltb n f.passed) (verdict 13 (n + 1)) (verdict f.number f.line)
  unfolding answer closed data_lines
  verdict_found n w =
      walk size ls n f w ls 0 fresh []
      (record { rests = from_first; before = before_first size ls; shut = refl; counted = refl })
      (omega arith)
      sweeps

  pub verdict_once : Once ls f.passed 0 size → judged size 1 [] ls ≡ verdict f.number f.line
  verdict_once once =
      let n = f.passed in
      verdict_found n (record { within = le_refl n; once = once; again = λ less. absurd (lt_irrefl n less) })
      ∙ rw (le-ltb n n (le_refl n))
