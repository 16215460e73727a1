-- The six functions of the cycle meet their contracts. What falls at each call is six times the number of empty points, and a little: on
-- one board `count_real` 6, `count_real_along` 5, `is_real` 4, `strict_by` 3, `plain` 2, `is_double_three` 1. Assumes nothing.
use mathlib.Core.Path.{◌≡◌, refl, ap, ap₂, sym, ◌∙◌}
use mathlib.Core.List.{List}
use Prim.Native.Nat.{ℕ}
use native.Mathlib.Omega.{arith}
use Rattle.rules.specs.Forbidden.{real_threes, strict_of, plain_of, plain_with, is_overline, is_double_four, is_double_three}
use Rattle.rules.proofs.Logic.{true-T}
use Rattle.rules.proofs.Gap.{eye-free, five-not-real, real-told}
use Rattle.second.specs.Count.{row_count, rows_along}
use Rattle.second.proofs.Bounded.{made-is}
use Rattle.second.proofs.Tallied.{seen_far, seen_end}
use Rattle.second.proofs.Asked.{some-true, some-false, more-true, more-false, more-is, asked-five, asked-plain}
use Rattle.second.proofs.Asked.{five-true, five-false, zero-there}
use Rattle.second.proofs.Asked.{with-ok, with-fewer, written_back}
use Rattle.second.proofs.verdict.+questions.Goals as goal

pub count_real-returns : goal.count_real-returns
unfolding row_count
count_real-returns t c =
    let real : List ℕ → ℕ → ℕ = λ x d. rows_along (real_threes strict_of x c.args.code d) in
    let e = c.count_real_along-vertical.ensures.2 in
    let f = c.count_real_along-horizontal.ensures.2 ∙ e in
    let g = c.count_real_along-ascending.ensures.2 ∙ f in (
      rw (
        c.count_real_along-vertical.ensures.0 ∙ ap (real c.args.board.now) c.way.ensures,
        c.count_real_along-horizontal.ensures.0 ∙ ap₂ real e c.way-2.ensures,
        c.count_real_along-ascending.ensures.0 ∙ ap₂ real f c.way-3.ensures,
        c.count_real_along-descending.ensures.0 ∙ ap₂ real g c.way-4.ensures,
      ) refl,
      c.count_real_along-descending.ensures.2 ∙ g,
    )

pub count_real_along-returns-then-j-i-ge2 : goal.count_real_along-returns-then-j-i-ge2
count_real_along-returns-then-j-i-ge2 t c =
    let r = c.is_real.ensures in
    let a = c.args in
    let e = c.loop-j.invariant.0 in
    let is = r.0 ∙ ap (λ (x : List ℕ). real_threes strict_of x a.code a.d c.unwrap.result) e in (
      seen_far _ c.loop-j.j c.in-Some.i c.loop-j-test.true (rw c.in-Some.is at c.loop-j.invariant.1)
          (rw (made-is 16 _ c.new.ensures c.unwrap.ensures) at (sym is ∙ c.if-is_real.true))
          c.if-j-i-ge2.true,
      omega arith,
      r.1 ∙ e,
    )

pub count_real_along-returns-then-is_some : goal.count_real_along-returns-then-is_some
count_real_along-returns-then-is_some t c =
    let e : c.loop-j.j ≡ 16 = omega arith in (
      rw (sym c.is_some.ensures ∙ c.if-is_some.true) at (seen_end _ c.loop-j.first (rw e at c.loop-j.invariant.1)),
      omega arith,
      c.loop-j.invariant.0,
    )

pub count_real_along-returns-else-is_some : goal.count_real_along-returns-else-is_some
count_real_along-returns-else-is_some t c =
    let e : c.loop-j.j ≡ 16 = omega arith in (
      rw (sym c.is_some.ensures ∙ c.if-is_some.false) at (seen_end _ c.loop-j.first (rw e at c.loop-j.invariant.1)),
      omega arith,
      c.loop-j.invariant.0,
    )

pub is_double_three-returns-then-count_rows-lt2 : goal.is_double_three-returns-then-count_rows-lt2
unfolding is_double_three
is_double_three-returns-then-count_rows-lt2 t c = (rw (more-false _ c.count_rows.ensures c.if-count_rows-lt2.true), refl)

pub is_double_three-count_real-real-requires : goal.is_double_three-count_real-real-requires
is_double_three-count_real-real-requires t c =
    let a = c.args in
    let p = c.requires in
    let m = c.decreases in
    let f = with-fewer a.board.now a.code p.0 (omega arith) p.1 in
    rw c.get.ensures.value (omega arith, with-ok a.board.now a.code p.0 (omega arith) p.1)

pub is_double_three-returns : goal.is_double_three-returns
unfolding is_double_three
is_double_three-returns t c =
    let r = c.count_real-real.ensures in
    let a = c.args in
    let p = c.requires in (
      rw (more-true _ c.count_rows.ensures c.if-count_rows-lt2.false) (more-is _ (rw c.get.ensures.value at r.0)),
      rw c.get-2.ensures.value (written_back a.board.now a.code p.0 (omega arith) p.1 (rw c.get.ensures.value at r.1)),
    )

pub is_real-returns-then-not-is_through : goal.is_real-returns-then-not-is_through
unfolding real_threes
is_real-returns-then-not-is_through t c =
    let e = c.is_through.ensures in
    (rw (sym e ∙ c.if-not-is_through.true), refl)

pub is_real-returns-then-fours-ge1 : goal.is_real-returns-then-fours-ge1
unfolding real_threes
is_real-returns-then-fours-ge1 t c =
    let a = c.args in
    let on = sym c.is_through.ensures ∙ c.if-not-is_through.false in (
      five-not-real a.board.now a.code a.d a.j (omega arith) (omega arith) (true-T on) strict_of c.eye_of-eye.ensures
          (five-true a.board.now _ c.count_rows-fours.ensures c.if-fours-ge1.true) ∙ rw on refl,
      refl,
    )

pub is_real-strict_by-requires : goal.is_real-strict_by-requires
is_real-strict_by-requires t c =
    let a = c.args in
    let m = c.decreases in
    let e = c.eye_of-eye.ensures in
    let on = true-T (sym c.is_through.ensures ∙ c.if-not-is_through.false) in (
      omega arith,
      (
        c.requires,
        zero-there a.board.now _ c.requires (omega arith)
            (rw e (eye-free a.board.now a.code a.d a.j (omega arith) (omega arith) on)),
        c.count_rows-fours.ensures,
      ),
    )

pub is_real-returns : goal.is_real-returns
unfolding real_threes
is_real-returns t c =
    let a = c.args in
    let on = sym c.is_through.ensures ∙ c.if-not-is_through.false in (
      c.is_none.ensures
          ∙ real-told a.board.now a.code a.d a.j (omega arith) (omega arith) (true-T on) strict_of c.eye_of-eye.ensures
          (five-false a.board.now _ c.count_rows-fours.ensures c.if-fours-ge1.false) c.strict_by.ensures.0 ∙ rw on refl,
      c.strict_by.ensures.1,
    )

pub plain-returns-then-count_rows-ge1 : goal.plain-returns-then-count_rows-ge1
unfolding plain_of plain_with is_overline
plain-returns-then-count_rows-ge1 t c =
    (rw (some-true _ c.count_rows.ensures c.if-count_rows-ge1.true), refl)

pub plain-returns-then-count_rows-ge2 : goal.plain-returns-then-count_rows-ge2
unfolding plain_of plain_with is_overline is_double_four
plain-returns-then-count_rows-ge2 t c =
    (rw (some-false _ c.count_rows.ensures c.if-count_rows-ge1.false, more-true _ c.count_rows-else-count_rows-ge1.ensures c.if-count_rows-ge2.true), refl)

pub plain-returns-then-is_double_three : goal.plain-returns-then-is_double_three
unfolding plain_of plain_with is_overline is_double_four
plain-returns-then-is_double_three t c =
    let r = c.is_double_three.ensures in (
      rw (
        some-false _ c.count_rows.ensures c.if-count_rows-ge1.false,
        more-false _ c.count_rows-else-count_rows-ge1.ensures c.if-count_rows-ge2.false,
        sym r.0 ∙ c.if-is_double_three.true,
      ),
      r.1,
    )

pub plain-returns-else-is_double_three : goal.plain-returns-else-is_double_three
unfolding plain_of plain_with is_overline is_double_four
plain-returns-else-is_double_three t c =
    let r = c.is_double_three.ensures in (
      rw (
        some-false _ c.count_rows.ensures c.if-count_rows-ge1.false,
        more-false _ c.count_rows-else-count_rows-ge1.ensures c.if-count_rows-ge2.false,
        sym r.0 ∙ c.if-is_double_three.false,
      ),
      r.1,
    )

pub strict_by-returns-then-fours-ge1 : goal.strict_by-returns-then-fours-ge1
strict_by-returns-then-fours-ge1 t c =
    let a = c.args in
    let p = c.requires in
    (asked-five a.board.now a.code p.0 (omega arith) p.1 p.2 c.if-fours-ge1.true, refl)

pub strict_by-returns : goal.strict_by-returns
strict_by-returns t c =
    let a = c.args in
    let p = c.requires in (
      c.plain.ensures.0 ∙ asked-plain a.board.now a.code p.0 (omega arith) p.1 p.2 c.if-fours-ge1.false,
      c.plain.ensures.1,
    )
