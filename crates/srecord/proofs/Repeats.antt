-- What marks tell of the lines passed so far, and the first line that writes an address again.
-- Assumes nothing.
use Rattle.std.proofs.Common.{◌≡◌, ℕ, zero, suc, ◌+◌, ◌-◌, ◌/◌, ◌%◌, ◌^◌, ◌<◌, ◌≤◌, Bool, true, false, eqb, ltb, List, ◌∷◌, map, length, get_or, drop, replicate, sym, refl, ap, ◌∙◌, not-suc-le-zero, add-zero, lt_irrefl, arith, length-drop, get_or-drop, drop-drop, ltb-false, ltb-true, eqb-true, Option, None, Some}
use mathlib.Core.Bool.{or-true, false≢true}
use native.Mathlib.Nat.{zero-div}
use lib.ListN.{get_or-replicate, get_or-eq_default}
use borrow.Author.Tests.{eqb-false}
use Rattle.srecord.specs.declared.records.Summary.{Summary}
use Rattle.srecord.specs.Lines.{lines}
use Rattle.srecord.specs.Load.{records, writes}
use Rattle.srecord.specs.Records.{Record, record_of}
use Rattle.srecord.specs.Promises.{Again, AllRead, Finds, FirstAgain, Marks, Once, Spans, marked, writes_by}
use Rattle.srecord.proofs.Cutting.{no_line}

-- One of the first n lines writes an address.
pub record Written (lines : List (Option Record)) (n a : ℕ) : Type 0 where
  pub line : ℕ
  pub before : line < n
  pub wrote : writes (get_or lines line None) a ≡ true

-- The lines passed write no address of the window twice, and the marks are on those that they write.
pub record Passed (lines : List (Option Record)) (low n : ℕ) (marks : List ℕ) : Type 0 where
  pub once : Once lines n low (low + 229376)
  pub all : (i : ℕ) → i < 229376 → Written lines n (low + i) → marked marks i ≡ true
  pub only : (i : ℕ) → i < 229376 → marked marks i ≡ true → Written lines n (low + i)

unmarked : (size i : ℕ) → i / 8 < size → marked (replicate size 0) i ≡ false
unfolding marked
unmarked size i below = rw (get_or-replicate {A = ℕ} size (i / 8) 0 0 below, zero-div (2 ^ (i % 8)))

module _ (lines : List (Option Record)) where
  -- No line passed, no mark.
  pub none_passed : (low size : ℕ) → 28672 ≤ size → Passed lines low 0 (replicate size 0)
  none_passed low size room =
      record {
        once = λ i j a less below. omega arith;
        all = λ i below w. absurd (not-suc-le-zero w.before);
        only = λ i below m. absurd (false≢true (sym (unmarked size i (omega arith)) ∙ m));
      }

  module _ {low n : ℕ} {before after : List ℕ} (p : Passed lines low n before) where
    -- A line that writes one which is marked.
    pub marked_again : Marks before (λ i. writes (get_or lines n None) (low + i)) true after → Again lines n
    marked_again m =
        let t = m.taken refl in
        let w = p.only t.0 t.1 t.3 in
        record { earlier = w.line; address = low + t.0; before = w.before; first = w.wrote; second = t.2 }

    module _ (m : Marks before (λ i. writes (get_or lines n None) (low + i)) false after) where
      all : (i : ℕ) → i < 229376 → Written lines (n + 1) (low + i) → marked after i ≡ true
      all i below w = go (eqb w.line n) refl
        where
          go : (last : Bool) → eqb w.line n ≡ last → marked after i ≡ true
          go true e = m.now refl i below ∙ rw (← eqb-true w.line n e, w.wrote, or-true)
          go false e =
              let earlier = eqb-false w.line n e in
              m.now refl i below
              ∙ rw (p.all i below (record { line = w.line; before = omega (arith, w.before); wrote = w.wrote }))

      only : (i : ℕ) → i < 229376 → marked after i ≡ true → Written lines (n + 1) (low + i)
      only i below full = go (marked before i) refl
        where
          go : (earlier : Bool) → marked before i ≡ earlier → Written lines (n + 1) (low + i)
          go true e =
              let w = p.only i below e in
              record { line = w.line; before = omega (arith, w.before); wrote = w.wrote }
          go false e = record { line = n; before = omega arith; wrote = rw e at (sym (m.now refl i below) ∙ full) }

      never :
          (i k : ℕ) → i < n → k < 229376 → writes (get_or lines i None) (low + k) ≡ true →
          writes (get_or lines n None) (low + k) ≡ true → ⊥
      never i k earlier below first second =
          let full = p.all k below (record { line = i; before = earlier; wrote = first }) in
          false≢true (sym (m.free refl k below second) ∙ full)

      once : Once lines (n + 1) low (low + 229376)
      once i j a less last from to first second = go (eqb j n) refl
        where
          go : (newest : Bool) → eqb j n ≡ newest → ⊥
          go true e =
              let same : a ≡ low + (a - low) = omega arith in
              let newest = eqb-true j n e in
              never i (a - low) (omega arith) (omega arith) (rw same at first) (rw (same, newest) at second)
          go false e = let earlier = eqb-false j n e in p.once i j a less (omega arith) from to first second

      -- One line more, whose addresses in the window were not marked and now are.
      pub one_passed : Passed lines low (n + 1) after
      one_passed = record { once = once; all = all; only = only }

-- n lines are passed, and the others are those of `rest`.
abbrev pub Reached : List ℕ → List ℕ → ℕ → Type 0
Reached text rest n = drop n (records text) ≡ records rest

module _ (text rest x more : List ℕ) (n : ℕ) (cuts : lines rest ≡ x ∷ lines more) (reached : Reached text rest n) where
  here : drop n (records text) ≡ record_of x ∷ records more
  here = reached ∙ ap (map record_of) cuts

  -- The line at hand is line n,
  pub line_at : get_or (records text) n None ≡ record_of x
  line_at = rw (← add-zero n, ← get_or-drop n (records text) 0 None, here)

  -- which writes what the code has it write;
  pub writes_at :
      {limit : ℕ} → AllRead (records text) limit → n < limit → (p : Option Summary) → Spans x p → (a : ℕ) →
      writes (get_or (records text) n None) a ≡ writes_by p a
  writes_at all less p spans a = go (record_of x) refl
    where
      go : (o : Option Record) → record_of x ≡ o → writes (get_or (records text) n None) a ≡ writes_by p a
      go None e = absurd (all n less (line_at ∙ e))
      go (Some r) e = rw (line_at, e) (spans r e a)

  -- and the next lines stand behind it.
  pub lines_behind : Reached text more (n + 1)
  lines_behind = sym (drop-drop 1 n (records text)) ∙ rw here

-- At the text's end all lines are passed: no line that is not there writes anything.
pub lines_end : (text rest : List ℕ) (n : ℕ) → length rest ≡ 0 → Reached text rest n → length (records text) ≤ n
lines_end text rest n empty reached =
    let none_left : length (drop n (records text)) ≡ 0 = rw (reached, no_line rest empty) in
    omega (arith, length-drop n (records text))

module _ (lines : List (Option Record)) {low n limit : ℕ} {marks : List ℕ} (p : Passed lines low n marks) where
  -- The limit is reached.
  all_passed : n ≡ limit → Finds lines limit low (low + 229376) None
  all_passed reached =
      record {
        first = record { within = omega arith; once = rw (← reached) p.once; again = λ less. absurd (lt_irrefl _ less) };
        below = tt;
      }

  -- The line at hand is the first.
  pub first_here : n < limit → Again lines n → Finds lines limit low (low + 229376) (Some n)
  first_here less again = record { first = record { within = omega arith; once = p.once; again = λ _. again }; below = less }

  -- There is no line more.
  none_left : length lines ≤ n → Finds lines limit low (low + 229376) None
  none_left over =
      record { first = record { within = omega arith; once = once; again = λ less. absurd (lt_irrefl _ less) }; below = tt }
    where
      once : Once lines limit low (low + 229376)
      once i j a less last from to first second = go (ltb j n) refl
        where
          go : (there : Bool) → ltb j n ≡ there → ⊥
          go true e = p.once i j a less (ltb-true j n e) from to first second
          go false e =
              let beyond : length lines ≤ j = omega (arith, ltb-false j n e) in
              false≢true (rw (get_or-eq_default lines None beyond) at second)

  -- No line is left to look at, of the limit or of all.
  pub ends_here : (left : ℕ) → n + left ≡ limit → (0 < left → length lines ≤ n) → Finds lines limit low (low + 229376) None
  ends_here zero e all = all_passed (omega arith)
  ends_here (suc left) e all = none_left (all (omega arith))

module _ (lines : List (Option Record)) where
  -- No address, no line that writes one again.
  pub first_nowhere : (limit low : ℕ) → FirstAgain lines limit low low limit
  first_nowhere limit low =
      record { within = omega arith; once = λ i j a less below from to. omega arith; again = λ less. absurd (lt_irrefl _ less) }

  -- The first in a part of the memory.
  pub first_in_part :
      {limit low high top first : ℕ} → FirstAgain lines limit low top first → high ≤ top → FirstAgain lines limit low high first
  first_in_part f fewer =
      record {
        within = f.within;
        once = λ i j a less below from to. f.once i j a less below from (omega arith);
        again = f.again;
      }

  -- The first in one part, and among the lines before it the first in the next part.
  pub first_in_both :
      {limit low middle high first second : ℕ} → FirstAgain lines limit low middle first → FirstAgain lines first middle high second →
      FirstAgain lines limit low high second
  first_in_both {limit} {low} {middle} {high} {first} {second} f g =
      record { within = omega (arith, f.within, g.within); once = once; again = again (ltb second first) refl }
    where
      once : Once lines second low high
      once i j a less last from to = go (ltb a middle) refl
        where
          go : (lower : Bool) → ltb a middle ≡ lower → writes (get_or lines i None) a ≡ true → writes (get_or lines j None) a ≡ true → ⊥
          go true e = f.once i j a less (omega (arith, g.within)) from (ltb-true a middle e)
          go false e = g.once i j a less last (ltb-false a middle e) to

      again : (earlier : Bool) → ltb second first ≡ earlier → second < limit → Again lines second
      again true e less = g.again (ltb-true second first e)
      again false e less =
          let same : first ≡ second = omega (arith, ltb-false second first e, g.within) in
          rw same at (f.again (rw same less))
