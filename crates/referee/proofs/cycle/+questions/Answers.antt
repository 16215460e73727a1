-- The six functions of the cycle meet their contracts. What falls at each call is six times the number of empty points, and a little:
-- on one board `two_real` 6, `open_asked` 5, `is_real` 4, `strict_by` 3, `plain` 2, `trial` 1. Assumes nothing.
use mathlib.Core.Path.{refl, ap, sym, subst, ◌∙◌}
use mathlib.Core.Bool.{not}
use mathlib.Core.List.{List}
use native.Mathlib.Omega.{arith}
use lib.Dec.{T}
use Rattle.rules.specs.Grid.{rows_through}
use Rattle.rules.specs.declared.Player.TheVariants.{Black}
use Rattle.rules.specs.declared.RowKind.TheVariants.{Three}
use Rattle.rules.specs.Forbidden.{is_real, strict_of, real_double}
use Rattle.grid.specs.Lines.{cells_of, Sound}
use Rattle.referee.proofs.Bounded.{made, can-make}
use Rattle.referee.proofs.RowsSeen.{triable}
use Rattle.referee.proofs.EyeFound.{eye-small, eye-empty, five-seen, real-seen}
use Rattle.referee.proofs.Asked.{on-sound, on-cells, on-fewer, on-threes, added, lifted, fewer}
use Rattle.referee.proofs.Told.{open-left, left-three, known-settled, one-settled, stays-settled}
use Rattle.referee.proofs.Told.{next-there, next-further, walk_first, walk-on, walk-done}
use Prim.Native.Nat.{ℕ, ◌+◌, ◌/◌, ◌%◌, ◌<◌}
use Rattle.referee.proofs.cycle.+questions.Goals as goal

pub is_real-unwrap-eye-requires : goal.is_real-unwrap-eye-requires
is_real-unwrap-eye-requires t c =
    let q = c.requires in
    let hp : c.args.code < 225 = omega arith in
    let hd : c.args.three / 16 < 4 = omega arith in
    can-make 225 _ c.new.ensures
    (eye-small c.args.lines.now c.args.code (c.args.three / 16) (c.args.three % 16) q.0 hp hd q.1 (c.eye_on.ensures.sound q.0 q.1))

pub is_real-strict_by-requires : goal.is_real-strict_by-requires
is_real-strict_by-requires t c =
    let L = c.args.lines.now in
    let m = c.decreases in
    let q = c.requires in
    let d = c.args.three / 16 in
    let j = c.args.three % 16 in
    let hp : c.args.code < 225 = omega arith in
    let hd : d < 4 = omega arith in
    let at = made 225 _ c.new.ensures c.unwrap-eye.ensures ∙ c.eye_on.ensures.sound q.0 q.1 in (
      omega arith,
      λ u. triable (cells_of L) _ (c.rows_on-rows.ensures.sound q.0) L q.0 refl (eye-empty L c.args.code d j q.0 hp hd q.1 at),
    )

pub is_real-returns-else-not-some_row : goal.is_real-returns-else-not-some_row
is_real-returns-else-not-some_row t c =
    let q = c.requires in
    let hp : c.args.code < 225 = omega arith in
    let hd : c.args.three / 16 < 4 = omega arith in
    let at = made 225 _ c.new.ensures c.unwrap-eye.ensures ∙ c.eye_on.ensures.sound q.0 q.1 in (
      ap not c.if-not-some_row.false ∙ five-seen c.args.lines.now c.args.code (c.args.three / 16) (c.args.three % 16) q.0 hp hd q.1
          at (c.rows_on-rows.ensures.sound q.0) c.some_row.ensures c.if-not-some_row.false,
      refl,
    )

pub is_real-returns-then-not-some_row : goal.is_real-returns-then-not-some_row
is_real-returns-then-not-some_row t c =
    let q = c.requires in
    let hp : c.args.code < 225 = omega arith in
    let hd : c.args.three / 16 < 4 = omega arith in
    let at = made 225 _ c.new.ensures c.unwrap-eye.ensures ∙ c.eye_on.ensures.sound q.0 q.1 in (
      c.is_none.ensures ∙ real-seen c.args.lines.now c.args.code (c.args.three / 16) (c.args.three % 16) q.0 hp hd q.1
          at (c.rows_on-rows.ensures.sound q.0) c.some_row.ensures c.if-not-some_row.true c.strict_by.ensures.0,
      c.strict_by.ensures.1,
    )

pub open_asked-loop-three-init : goal.open_asked-loop-three-init
open_asked-loop-three-init t c =
    let known = c.requires.1 in
    let C = cells_of c.args.lines.now in
    let e = c.other_starts-rest.ensures in (
      refl,
      known,
      next-there _ 0 c.is_told.result c.next_unless-three.ensures,
      λ k hk u. left-three C c.args.code known k hk (open-left _ _ e k hk u),
      walk_first _ 0 c.is_told.result c.next_unless-three.ensures _ _ refl c.is_told.ensures e,
    )

pub open_asked-is_real-real-requires : goal.open_asked-is_real-real-requires
open_asked-is_real-real-requires t c =
    let v = c.loop-three.invariant in
    let k = c.loop-three.three in
    let h = c.loop-three-test.true in (
      fewer 4 c.args.lines.now c.loop-three.lines t v.0 c.decreases,
      (
        subst Sound (sym v.0) c.requires.0,
        rw (made 64 k c.new.ensures c.unwrap.ensures)
            (subst (λ (l : List ℕ). T (rows_through Black Three (cells_of l) c.args.code (k / 16) (k % 16))) (sym v.0) (v.3 k h (v.2 h))),
      ),
    )

pub open_asked-loop-three-smaller : goal.open_asked-loop-three-smaller
open_asked-loop-three-smaller t c =
    let h = c.loop-three-test.true in
    let g = next-further _ (c.loop-three.three + 1) c.is_told-in-loop-three.result c.next_unless-three-in-loop-three.ensures (omega arith) in
    omega arith

pub open_asked-loop-three-preserved : goal.open_asked-loop-three-preserved
open_asked-loop-three-preserved t c =
    let v = c.loop-three.invariant in
    let h = c.loop-three-test.true in
    let C = cells_of c.args.lines.now in
    let p = c.args.code in
    let k = c.loop-three.three in
    let three = v.3 k h (v.2 h) in
    let answer = (rw (made 64 k c.new.ensures c.unwrap.ensures) at c.is_real-real.ensures.0) ∙ ap (λ (c : List ℕ). is_real strict_of (cells_of c) p (k / 16) (k % 16)) v.0 in
    let es = c.settled-known.ensures.0 in
    let el = c.settled-known.ensures.1 in (
      c.is_real-real.ensures.1 ∙ v.0,
      known-settled C p v.1 k h three c.is_real-real.result answer es el,
      next-there _ (k + 1) c.is_told-in-loop-three.result c.next_unless-three-in-loop-three.ensures,
      v.3,
      walk-on _ (k + 1) c.is_told-in-loop-three.result c.next_unless-three-in-loop-three.ensures _ _ _ _ k refl h c.is_told-in-loop-three.ensures
          (one-settled C p v.1 k h three c.is_real-real.result answer es el)
          (stays-settled C p v.1 k h three c.is_real-real.result answer es el) v.4,
    )

pub open_asked-returns : goal.open_asked-returns
open_asked-returns t c =
    let v = c.loop-three.invariant in
    (walk-done (cells_of c.args.lines.now) c.args.code v.1 _ _ c.loop-three-test.false v.4 c.more_than_one.ensures, v.0)

pub trial-two_real-real-requires : goal.trial-two_real-real-requires
trial-two_real-real-requires t c =
    let L = c.args.lines.now in
    let p = c.args.code in
    let hp : p < 225 = omega arith in
    let q = c.requires in
    let w = added L _ p c.numbers-numbers.ensures q.sound hp q.free (rw c.get-p.ensures.value at c.add_by.ensures) in
    let m = c.decreases in
    let f = on-fewer L p q.sound hp q.free w in
    (omega arith, (on-sound L p q.sound hp q.free w, on-threes L p q.sound hp q.free w q.starts))

pub trial-returns : goal.trial-returns
trial-returns t c =
    let r = c.two_real-real in
    let L = c.args.lines.now in
    let p = c.args.code in
    let hp : p < 225 = omega arith in
    let q = c.requires in
    let e = rw c.get-p.ensures.value at c.add_by.ensures in
    let w = added L _ p c.numbers-numbers.ensures q.sound hp q.free e in (
      r.ensures.0 ∙ ap (λ (C : List ℕ). real_double strict_of C p) (on-cells L p q.sound hp q.free w),
      lifted L _ p c.numbers-numbers.ensures q.sound hp q.free e r.ensures.1 (rw c.get-p.ensures.value at c.lift_by.ensures),
    )
