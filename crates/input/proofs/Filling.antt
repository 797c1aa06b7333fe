-- A buffer that is filled by one read after another: what stands in it after the next one.
use Rattle.std.proofs.Common.{◌≡◌, ℕ, ◌+◌, ◌-◌, ◌≤◌, List, ◌++◌, None, Some, length, take, drop, sym, ap, subst, ◌∙◌, arith, append_assoc, append-nil}
use Rattle.std.proofs.Math.Seq.{take-append-add}
use Rattle.std.proofs.lemmas.List.{length-take-le, length-drop, drop_all}
use Rattle.std.specs.Prelude.{Option}
use Rattle.std.specs.Io.KnownBytes.{Consumes}
use borrow.Rule.Slice.PartMut.{put_mid}

consumes_both : (a b c : Option (List ℕ)) (bs cs : List ℕ) → Consumes a b bs → Consumes b c cs → Consumes a c (bs ++ cs)
consumes_both None b c bs cs p q = tt
consumes_both (Some x) None c bs cs p q = absurd p
consumes_both (Some x) (Some y) None bs cs p q = absurd q
consumes_both (Some x) (Some y) (Some z) bs cs p q = p ∙ ap (λ l. bs ++ l) q ∙ sym (append_assoc bs cs z)

-- Nothing stands behind a part that reaches to the end.
put_last : (at : ℕ) (xs ys : List ℕ) → put_mid at (length xs - at) xs ys ≡ take at xs ++ ys
put_last at xs ys =
    ap (λ l. take at xs ++ l)
    (ap (λ l. ys ++ l) (drop_all (length xs - at) (drop at xs) (rw (length-drop at xs) (omega arith))) ∙ append-nil ys)

-- `xs` was filled up to `at`, and the rest of it was then lent to a read that put n bytes there and left it as `ys`.
pub filled_more :
    (a b c : Option (List ℕ)) (xs ys : List ℕ) (at n : ℕ) → at ≤ length xs → Consumes a b (take at xs) → Consumes b c (take n ys) →
    Consumes a c (take (at + n) (put_mid at (length xs - at) xs ys))
filled_more a b c xs ys at n within before read =
    let front : length (take at xs) ≡ at = length-take-le at xs within in
    let sooner : take (at + n) (take at xs ++ ys) ≡ take at xs ++ take n ys =
    ap (λ k. take (k + n) (take at xs ++ ys)) (sym front) ∙ take-append-add (take at xs) ys n in
    subst (Consumes a c) (sym (ap (take (at + n)) (put_last at xs ys) ∙ sooner)) (consumes_both a b c _ _ before read)
