-- The four functions of the cycle meet their contracts. What falls at each call is six times the number of empty points, and a little: on one
-- board `deepest_eye` 4, `eye_depth` 3, `depth_by` 2, `trial_depth` 1. Assumes nothing.
use mathlib.Core.Path.{◌≡◌, refl, ap, sym, subst, ◌∙◌}
use mathlib.Core.List.{List}
use Prim.Native.Nat.{ℕ, ◌+◌, ◌/◌, ◌%◌, ◌<◌}
use native.Mathlib.Omega.{arith}
use lib.Dec.{T}
use Rattle.rules.specs.Grid.{starts_of, rows_through, numbered}
use Rattle.rules.specs.Forbidden.{eye_of}
use Rattle.rules.specs.Depth.{eye_depth, deepest, depth_of}
use Rattle.rules.specs.declared.Player.TheVariants.{Black}
use Rattle.rules.specs.declared.RowKind.TheVariants.{Three}
use Rattle.rules.proofs.Numbered.{next_le}
use Rattle.rules.proofs.Search.{three-there}
use Rattle.rules.proofs.Depth.{to-three, one_deeper, deepest-all, depth-one, depth-more, depth-byte}
use Rattle.grid.specs.Lines.{cells_of, Sound}
use Rattle.grid.proofs.Lines.{length-cells_of}
use Rattle.referee.proofs.Bounded.{made, can-make}
use Rattle.referee.proofs.EyeFound.{eye-small, eye-empty}
use Rattle.referee.proofs.Asked.{on-sound, on-cells, on-fewer, on-threes, added, lifted, fewer}
use Rattle.depth.proofs.Looked.{empty-is, none_below, not-before, nested-seen, five-counts, deep-counts}
use Rattle.depth.proofs.cycle.+depths.Goals as goal

pub deepest_eye-loop-three-init : goal.deepest_eye-loop-three-init
deepest_eye-loop-three-init t c =
    let hp : c.args.code < 225 = omega arith in
    let e = c.next_start-three.ensures in (
      refl,
      sym (to-three depth_of (cells_of c.args.lines.now) c.args.code hp c.args.threes c.requires.1 0 _ (omega arith) e
          ∙ none_below depth_of (cells_of c.args.lines.now) c.args.code),
      (0, e),
    )

pub deepest_eye-eye_depth-here-requires : goal.deepest_eye-eye_depth-here-requires
deepest_eye-eye_depth-here-requires t c =
    let L = c.args.lines.now in
    let p = c.args.code in
    let k = c.loop-three.three in
    let n = c.loop-three.invariant.2 in
    let e = c.loop-three.invariant.0 in
    let three = three-there (cells_of L) p c.args.threes c.requires.1 n.0 k n.1 c.loop-three-test.true in (
      fewer 3 L c.loop-three.lines t e c.decreases,
      (
        subst Sound (sym e) c.requires.0,
        rw (made 64 k c.new.ensures c.unwrap.ensures)
            (subst (λ (l : List ℕ). T (rows_through Black Three (cells_of l) p (k / 16) (k % 16))) (sym e) three),
      ),
    )

pub deepest_eye-loop-three-smaller : goal.deepest_eye-loop-three-smaller
deepest_eye-loop-three-smaller t c =
    let h = c.loop-three-test.true in
    let g = not-before (numbered (starts_of c.args.threes)) c.next_start-three-in-loop-three.ensures (omega arith) in
    omega arith

pub deepest_eye-loop-three-preserved : goal.deepest_eye-loop-three-preserved
deepest_eye-loop-three-preserved t c =
    let hp : c.args.code < 225 = omega arith in
    let r = c.eye_depth-here.ensures in
    let C = cells_of c.args.lines.now in
    let p = c.args.code in
    let k = c.loop-three.three in
    let n = c.loop-three.invariant.2 in
    let e = c.loop-three.invariant.0 in
    let here = (rw (made 64 k c.new.ensures c.unwrap.ensures) at r.0) ∙ ap (λ (l : List ℕ). eye_depth depth_of (cells_of l) (eye_of (cells_of l) p (k / 16) (k % 16))) e in (
      r.1 ∙ e,
      c.larger-deep.ensures
          ∙ one_deeper depth_of C p hp c.args.threes c.requires.1 n.0 k n.1 c.loop-three-test.true c.loop-three.invariant.1 here
          c.next_start-three-in-loop-three.ensures,
      (k + 1, c.next_start-three-in-loop-three.ensures),
    )

pub deepest_eye-returns : goal.deepest_eye-returns
deepest_eye-returns t c =
    let hp : c.args.code < 225 = omega arith in
    let n = c.loop-three.invariant.2 in
    let l = next_le (numbered (starts_of c.args.threes)) n.0 in
    let h = c.loop-three-test.false in
    let end : c.loop-three.three ≡ 64 = omega (arith, n.1) in (
      c.loop-three.invariant.1 ∙ deepest-all depth_of (cells_of c.args.lines.now) c.args.code hp end,
      c.loop-three.invariant.0,
    )

pub depth_by-overflow_add-result : goal.depth_by-overflow_add-result
depth_by-overflow_add-result t c =
    let L = c.args.lines.now in
    let q = c.requires in
    let hp : c.args.code < 225 = omega arith in
    let h = depth-byte (cells_of L) c.args.code (length-cells_of L) hp (empty-is L c.args.code hp q.1) c.trial_depth.ensures.0 in
    omega arith

pub depth_by-returns-then-asks_nested : goal.depth_by-returns-then-asks_nested
depth_by-returns-then-asks_nested t c =
    let L = c.args.lines.now in
    let p = c.args.code in
    let q = c.requires in
    let hp : p < 225 = omega arith in (
      depth-more (cells_of L) p (length-cells_of L) hp (empty-is L p hp q.1)
          (sym (nested-seen (cells_of L) p q.2 c.asks_nested.ensures) ∙ c.if-asks_nested.true) c.trial_depth.ensures.0,
      c.trial_depth.ensures.1,
    )

pub depth_by-returns : goal.depth_by-returns
depth_by-returns t c =
    let L = c.args.lines.now in
    let p = c.args.code in
    let q = c.requires in
    let hp : p < 225 = omega arith in (
      depth-one (cells_of L) p (length-cells_of L) hp (empty-is L p hp q.1)
          (sym (nested-seen (cells_of L) p q.2 c.asks_nested.ensures) ∙ c.if-asks_nested.false),
      refl,
    )

pub eye_depth-unwrap-eye-requires : goal.eye_depth-unwrap-eye-requires
eye_depth-unwrap-eye-requires t c =
    let q = c.requires in
    let hp : c.args.code < 225 = omega arith in
    let hd : c.args.three / 16 < 4 = omega arith in
    can-make 225 _ c.new.ensures
    (eye-small c.args.lines.now c.args.code (c.args.three / 16) (c.args.three % 16) q.0 hp hd q.1 (c.eye_on.ensures.sound q.0 q.1))

pub eye_depth-returns-then-some_row : goal.eye_depth-returns-then-some_row
eye_depth-returns-then-some_row t c =
    let q = c.requires in
    let at = made 225 _ c.new.ensures c.unwrap-eye.ensures ∙ c.eye_on.ensures.sound q.0 q.1 in
    (five-counts (cells_of c.args.lines.now) _ (c.rows_on-rows.ensures.sound q.0) at c.some_row.ensures c.if-some_row.true, refl)

pub eye_depth-depth_by-requires : goal.eye_depth-depth_by-requires
eye_depth-depth_by-requires t c =
    let L = c.args.lines.now in
    let m = c.decreases in
    let q = c.requires in
    let hp : c.args.code < 225 = omega arith in
    let hd : c.args.three / 16 < 4 = omega arith in
    let at = made 225 _ c.new.ensures c.unwrap-eye.ensures ∙ c.eye_on.ensures.sound q.0 q.1 in (
      omega arith,
      (q.0, eye-empty L c.args.code (c.args.three / 16) (c.args.three % 16) q.0 hp hd q.1 at, c.rows_on-rows.ensures.sound q.0),
    )

pub eye_depth-returns : goal.eye_depth-returns
eye_depth-returns t c =
    let q = c.requires in
    let at = made 225 _ c.new.ensures c.unwrap-eye.ensures ∙ c.eye_on.ensures.sound q.0 q.1 in (
      deep-counts (cells_of c.args.lines.now) _ (c.rows_on-rows.ensures.sound q.0) at c.some_row.ensures c.if-some_row.false
          c.depth_by.ensures.0,
      c.depth_by.ensures.1,
    )

pub trial_depth-deepest_eye-deep-requires : goal.trial_depth-deepest_eye-deep-requires
trial_depth-deepest_eye-deep-requires t c =
    let L = c.args.lines.now in
    let p = c.args.code in
    let hp : p < 225 = omega arith in
    let q = c.requires in
    let w = added L _ p c.numbers-numbers.ensures q.sound hp q.free (rw c.get-p.ensures.value at c.mark_by.ensures) in
    let m = c.decreases in
    let f = on-fewer L p q.sound hp q.free w in
    (omega arith, (on-sound L p q.sound hp q.free w, on-threes L p q.sound hp q.free w q.starts))

pub trial_depth-returns : goal.trial_depth-returns
trial_depth-returns t c =
    let r = c.deepest_eye-deep in
    let L = c.args.lines.now in
    let p = c.args.code in
    let hp : p < 225 = omega arith in
    let q = c.requires in
    let e = rw c.get-p.ensures.value at c.mark_by.ensures in
    let w = added L _ p c.numbers-numbers.ensures q.sound hp q.free e in (
      r.ensures.0 ∙ ap (λ (C : List ℕ). deepest depth_of C p) (on-cells L p q.sound hp q.free w),
      lifted L _ p c.numbers-numbers.ensures q.sound hp q.free e r.ensures.1 (rw c.get-p.ensures.value at c.mark_by-2.ensures),
    )
