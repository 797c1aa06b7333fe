-- Laws of one sweep over the lines, line by line.
-- Assumes nothing.
use Rattle.std.proofs.Common.{◌≡◌, ℕ, ◌+◌, ◌≤◌, Bool, true, false, cond, List, ◌∷◌, map, length, refl, sym, ap, arith, eq-eqb, ne_eqb, Option, None, Some, Ok}
use Rattle.std.specs.Option.{option_map}
use Rattle.srecord.specs.Lines.{lines}
use Rattle.srecord.specs.Records.{Record, is_data, record_of}
use Rattle.srecord.specs.Load.{records, verdict}
use Rattle.srecord.specs.Promises.{Behind, alone, finding, noted, summary, swept}
use Rattle.srecord.specs.declared.records.Summary.{Summary}
use Rattle.srecord.specs.declared.sweep.SoFar.{SoFar}
use Rattle.srecord.proofs.Cutting.{no_line}
use Rattle.srecord.proofs.Pairs.{never}

-- What is known of a line that was read, or was not.
pub is_known : (o : Option Record) {r : Summary} → Some r ≡ option_map summary o → (x : Record) × (o ≡ Some x) × (summary x ≡ r)
is_known None e = absurd (never (sym e))
is_known (Some x) e = (x, refl, cc)

pub counts_on : (s : SoFar) (r : Summary) → (noted s r).count ≤ s.count + 1
unfolding noted
counts_on s r = go (is_data r.opening.kind)
  where
    go : (t : Bool) → cond t (s.count + 1) s.count ≤ s.count + 1
    go true = omega arith
    go false = omega arith

-- What is told at the end.
pub told_at_end :
    (closed : Bool) (n : ℕ) (ordered : Bool) →
    let v = cond closed (verdict 0 0) (verdict 15 0) in finding v.number v.line n ordered ≡ finding (cond closed 0 15) 0 n ordered
told_at_end true n ordered = refl
told_at_end false n ordered = refl

module _ (size n : ℕ) (s : SoFar) (rest : List ℕ) where
  pub nothing_left : length rest ≡ 0 → swept size n s (records rest) ≡ finding (cond s.closed 0 15) 0 n s.ordered
  unfolding swept
  nothing_left none_left = rw (no_line rest none_left)

  module _ (x more : List ℕ) (cuts : lines rest ≡ x ∷ lines more) where
    begins : records rest ≡ record_of x ∷ records more
    begins = ap (map record_of) cuts

    pub refused :
        {number : ℕ} → number ≡ alone size s (record_of x) → (number ≡ 0 → ⊥) →
        swept size n s (records rest) ≡ finding number (n + 1) n s.ordered
    unfolding swept
    refused {number} e given = rw begins (go (record_of x) e)
      where
        go : (o : Option Record) → number ≡ alone size s o → swept size n s (o ∷ records more) ≡ finding number (n + 1) n s.ordered
        go None e = rw e
        go (Some r) e = rw (← e, ne_eqb number 0 given)

    pub passes : {after : SoFar} → Behind size s (record_of x) (Ok after) → swept size n s (records rest) ≡ swept size (n + 1) after (records more)
    unfolding swept
    passes x = rw (begins, x.1, eq-eqb _ 0 (rw x.1 at x.2), x.3)
