-- The lines that `data_lines` has still to write, written from where it stands, are all of them written from where it began.
-- Assumes nothing.
use Rattle.std.proofs.Common.{◌≡◌, ◌+◌, ◌-◌, ◌*◌, ◌/◌, ◌<◌, ◌≤◌, ℕ, List, min, length, sym, refl, ap, ◌∙◌, arith, length-drop, drop-drop}
use lib.Seq.{sets}
use Rattle.srecord.proofs.WrittenLines.{all_lines, chunk, last_line, line_done, lines_length, piece_fits, s3_lines_length}
use Rattle.srecord.proofs.exporting.data_lines.Goals as goal

pub loop-i-init : goal.loop-i-init
loop-i-init c =
    rw (
      c.into_iter-i-iterator.ensures.into_iter_gives,
      c.enumerate-i-items.ensures.count,
      c.enumerate-i-items.ensures.source,
      c.chunks.ensures.rest,
      c.chunks.ensures.size,
    )
    (refl, refl, omega arith, ap (λ (text : List ℕ). sets c.args.buffer.now 0 text) (all_lines c.args.memory.now))

pub line-place-requires : goal.line-place-requires
line-place-requires c =
    let m = c.args.memory.now in
    let n = length m in
    let a = c.loop-i in
    let at = 16 * a.i-iterator.count in
    let s = c.in-Some.ensures.steps in
    let all : lines_length n ≤ length c.args.buffer.now = rw (sym (s3_lines_length ((n + 15) / 16) 0 m refl)) c.requires.1 in
    let left : length a.i-iterator.iter.rest.now ≡ n - at = ap length a.invariant.1 ∙ length-drop at m in
    let inside : at < n = omega (arith, left, s.0.1.2) in
    let many : length c.in-Some.bytes.now ≡ min 16 (n - at) = rw (a.invariant.0, left) at s.0.1.1 in
    (refl, omega (arith, many), rw a.auto.buffer (piece_fits n at a.place _ inside many a.invariant.2 all))

pub loop-i-preserved : goal.loop-i-preserved
loop-i-preserved c =
    let m = c.args.memory.now in
    let a = c.loop-i in
    let at = 16 * a.i-iterator.count in
    let s = c.in-Some.ensures.steps in
    let left : length a.i-iterator.iter.rest.now ≡ length m - at = ap length a.invariant.1 ∙ length-drop at m in
    let inside : at < length m = omega (arith, left, s.0.1.2) in
    let cut = chunk c.next.new.self.iter.rest.now s.0.1.0 (rw a.invariant.0 at s.0.1.1) in
    let on : 16 * (a.i-iterator.count + 1) ≡ at + 16 = omega arith in
    let done = line_done m a.buffer at a.place inside (rw (s.1, cut.0, a.invariant.1) at c.line-place.ensures) in
    rw (s.2, on) (
      s.0.0 ∙ a.invariant.0,
      cut.1 ∙ rw a.invariant.1 (drop-drop 16 at m),
      done.0 ∙ a.invariant.2,
      done.1 ∙ a.invariant.3,
    )

pub returns : goal.returns
returns c =
    let a = c.loop-i in
    let m = c.args.memory.now in
    let at = 16 * a.i-iterator.count in
    let s = c.in-None.ensures.steps in
    let left : length a.i-iterator.iter.rest.now ≡ length m - at = ap length a.invariant.1 ∙ length-drop at m in
    let over : length m ≤ at = omega (arith, left, s.0.1.0) in
    record {
      places = ap (λ (rest : List ℕ). sets a.buffer a.place rest) (sym (last_line m at over)) ∙ a.invariant.3;
      ends = rw (s3_lines_length ((length m + 15) / 16) 0 m refl) (omega (arith, a.invariant.2, over));
    }
