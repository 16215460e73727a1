-- The three functions of the search meet their contracts. What falls at each call is three times the attacks left, and a little: `plan_on` 2,
-- `attack_on` 1, `forced_on` 0. Assumes nothing.
use mathlib.Core.Path.{◌≡◌, refl, ap, sym, subst, ◌∙◌}
use mathlib.Core.List.{List}
use Prim.Native.Nat.{ℕ, ◌+◌, ◌-◌, ◌<◌}
use native.Mathlib.Omega.{arith}
use lib.ListN.{length, set}
use lib.Seq.{sets}
use Rattle.grid.specs.Lines.{cells_of, Sound}
use Rattle.grid.proofs.Lines.{length-cells_of}
use Rattle.hint.specs.Hint.{after_both}
use Rattle.hint.specs.Planner.{first_line, line_from, plan_from}
use Rattle.hint.specs.Seen.{Quiet, Forced, Covers, NextTry}
use Rattle.hint.proofs.Bounded.{made}
use Rattle.hint.proofs.Checked.{at-forced, both-sound, both-cells, both-quiet, both-back}
use Rattle.hint.proofs.Searched.{gives, nil-of, line-no, line-end, line-forced, line-last, nothing-behind, two-longer, two-before}
use Rattle.hint.proofs.Marks.{covers-both, skip-to}
use Rattle.hint.proofs.Searched.{plan-zero, plan-step, first-none, first_more, first-here, plan-short}
use Rattle.hint.proofs.plan.+search.Goals as goal

pub attack_on-forced_on-requires : goal.attack_on-forced_on-requires
attack_on-forced_on-requires t c =
    let a = c.args in
    let e = c.attack_at.ensures in
    let m = c.decreases in (
      omega arith,
      (
        subst Sound (sym e.1) c.requires.0,
        subst (λ (l : List ℕ). Forced a.side (cells_of l) a.code c.in-Forces.eye) (sym e.1)
            (at-forced a.side (cells_of a.lines.now) a.code e.0 c.in-Forces.is),
        c.requires.2,
        c.requires.3,
        subst (λ (l : List ℕ). Covers a.side (cells_of l) a.tries.now) (sym e.1) c.requires.4,
      ),
    )

pub attack_on-returns-in-No : goal.attack_on-returns-in-No
attack_on-returns-in-No t c =
    let a = c.args in
    let e = c.attack_at.ensures in
    let g = gives a.out.now a.at
    (line-no a.side (a.left - 1) (cells_of a.lines.now) a.code e.0 c.in-No.is) in
    (g.0, g.1, e.1)

pub attack_on-returns-in-Ends : goal.attack_on-returns-in-Ends
attack_on-returns-in-Ends t c =
    let a = c.args in
    let e = c.attack_at.ensures in
    let g = gives a.out.now a.at
    (line-end a.side (a.left - 1) (cells_of a.lines.now) a.code e.0 c.in-Ends.is) in
    rw c.get.ensures.value (g.0, g.1, e.1)

pub forced_on-returns-then-left-eq1 : goal.forced_on-returns-then-left-eq1
forced_on-returns-then-left-eq1 t c =
    let a = c.args in
    let g = gives a.out.now a.at
    (line-last a.side a.left (cells_of a.lines.now) a.code a.eye c.requires.1 c.if-left-eq1.true) in
    (g.0, g.1, refl)

pub forced_on-tries_after-next-requires : goal.forced_on-tries_after-next-requires
forced_on-tries_after-next-requires t c =
    let put = rw c.get-p.ensures.value at c.mark_by.ensures in
    let a = c.args in
    both-sound a.side a.lines.now _ a.code a.eye c.requires.0 c.requires.1 c.numbers-numbers.ensures c.opponent.ensures
    put c.mark_by-2.ensures

pub forced_on-plan_on-n-requires : goal.forced_on-plan_on-n-requires
forced_on-plan_on-n-requires t c =
    let put = rw c.get-p.ensures.value at c.mark_by.ensures in
    let a = c.args in
    let m = c.decreases in
    let h = c.requires.3 in
    let b = c.requires.2 in (
      omega arith,
      (
        both-sound a.side a.lines.now _ a.code a.eye c.requires.0 c.requires.1 c.numbers-numbers.ensures
            c.opponent.ensures
            put c.mark_by-2.ensures,
        both-quiet a.side a.lines.now _ a.code a.eye c.requires.0 c.requires.1 c.numbers-numbers.ensures
            c.opponent.ensures
            put c.mark_by-2.ensures,
        omega arith,
        covers-both a.side (cells_of a.lines.now) a.code a.eye c.requires.1 (length-cells_of a.lines.now) a.tries.now _
            c.requires.4 c.tries_after-next.ensures.0
            (both-cells a.side a.lines.now _ a.code a.eye c.requires.0 c.requires.1 c.numbers-numbers.ensures
            c.opponent.ensures
            put c.mark_by-2.ensures) c.tries_after-next.ensures.1,
      ),
    )

pub forced_on-returns-then-n-eq0 : goal.forced_on-returns-then-n-eq0
forced_on-returns-then-n-eq0 t c =
    let put = rw c.get-p.ensures.value at c.mark_by.ensures in
    let off = rw c.get-p.ensures.value at c.mark_by-4.ensures in
    let a = c.args in
    let next = plan_from a.side (a.left - 1) in
    let after = after_both a.side (cells_of a.lines.now) a.code a.eye in
    let on = both-cells a.side a.lines.now _ a.code a.eye c.requires.0 c.requires.1 c.numbers-numbers.ensures
    c.opponent.ensures
    put c.mark_by-2.ensures in
    let r = c.plan_on-n.ensures in
    let r0 = r.0 ∙ ap (λ (D : List ℕ). length (next D)) on in
    let r1 = r.1 ∙ ap (λ (D : List ℕ). sets a.out.now (a.at + 2) (next D)) on in
    let back = both-back a.side a.lines.now _ a.code a.eye c.requires.0 c.requires.1 c.numbers-numbers.ensures
    c.opponent.ensures
    put c.mark_by-2.ensures c.opponent-2.ensures r.2 c.mark_by-3.ensures
    off in
    let z = sym c.if-n-eq0.true ∙ r0 in
    let g = gives a.out.now a.at (line-forced a.side next (cells_of a.lines.now) a.code a.eye c.requires.1
    ∙ nothing-behind a.code a.eye (next after) z) in
    (g.0, r1 ∙ ap (sets a.out.now (a.at + 2)) (nil-of (next after) z) ∙ g.1, back)

pub forced_on-overflow_add-result : goal.forced_on-overflow_add-result
forced_on-overflow_add-result t c =
    let put = rw c.get-p.ensures.value at c.mark_by.ensures in
    let a = c.args in
    let next = plan_from a.side (a.left - 1) in
    let after = after_both a.side (cells_of a.lines.now) a.code a.eye in
    let on = both-cells a.side a.lines.now _ a.code a.eye c.requires.0 c.requires.1 c.numbers-numbers.ensures
    c.opponent.ensures
    put c.mark_by-2.ensures in
    let r0 = c.plan_on-n.ensures.0 ∙ ap (λ (D : List ℕ). length (next D)) on in
    let h = plan-short a.side (a.left - 1) after in
    omega (arith, c.requires.2, c.requires.3, r0, h)

pub forced_on-returns : goal.forced_on-returns
forced_on-returns t c =
    let put = rw c.get-p.ensures.value at c.mark_by.ensures in
    let off = rw c.get-p.ensures.value at c.mark_by-4.ensures in
    let a = c.args in
    let next = plan_from a.side (a.left - 1) in
    let after = after_both a.side (cells_of a.lines.now) a.code a.eye in
    let on = both-cells a.side a.lines.now _ a.code a.eye c.requires.0 c.requires.1 c.numbers-numbers.ensures
    c.opponent.ensures
    put c.mark_by-2.ensures in
    let r = c.plan_on-n.ensures in
    let r0 = r.0 ∙ ap (λ (D : List ℕ). length (next D)) on in
    let r1 = r.1 ∙ ap (λ (D : List ℕ). sets a.out.now (a.at + 2) (next D)) on in
    let back = both-back a.side a.lines.now _ a.code a.eye c.requires.0 c.requires.1 c.numbers-numbers.ensures
    c.opponent.ensures
    put c.mark_by-2.ensures c.opponent-2.ensures r.2 c.mark_by-3.ensures
    off in
    let some : length (next after) ≡ 0 → ⊥ = λ z. c.if-n-eq0.false (r0 ∙ z) in
    let g = gives a.out.now a.at (line-forced a.side next (cells_of a.lines.now) a.code a.eye c.requires.1) in
    rw c.get-p.ensures.value (
      ap (λ (n : ℕ). n + 2) r0 ∙ two-longer a.out.now a.at a.code a.eye (next after) some ∙ g.0,
      ap (λ (u : List ℕ). set (set u a.at a.code) (a.at + 1) a.eye) r1
          ∙ two-before a.out.now a.at a.code a.eye (next after) some ∙ g.1,
      back,
    )

pub plan_on-returns-then-left-eq0 : goal.plan_on-returns-then-left-eq0
plan_on-returns-then-left-eq0 t c =
    let a = c.args in
    let g = gives a.out.now a.at (plan-zero a.side a.left (cells_of a.lines.now) c.if-left-eq0.true) in
    (g.0, g.1, refl)

pub plan_on-loop-p-init : goal.plan_on-loop-p-init
plan_on-loop-p-init t c =
    let a = c.args in
    let n = c.next_try-p.ensures in (
      refl,
      refl,
      n.le,
      skip-to a.side (cells_of a.lines.now) (length-cells_of a.lines.now) c.requires.1 a.tries.now c.requires.3
          (a.left - 1) n (omega arith) (first-none _),
    )

pub plan_on-attack_on-n-requires : goal.plan_on-attack_on-n-requires
plan_on-attack_on-n-requires t c =
    let a = c.args in
    let i = c.loop-p.invariant in
    let m = c.decreases in
    let h : 0 < a.left = omega (arith, c.if-left-eq0.false) in (
      omega arith,
      (
        subst Sound (sym i.0) c.requires.0,
        subst (λ (l : List ℕ). Quiet a.side (cells_of l)) (sym i.0) c.requires.1,
        c.requires.2,
        h,
        subst (λ (l : List ℕ). Covers a.side (cells_of l) a.tries.now) (sym i.0) c.requires.3,
      ),
    )

pub plan_on-returns-then-n-ne0 : goal.plan_on-returns-then-n-ne0
plan_on-returns-then-n-ne0 t c =
    let a = c.args in
    let C = cells_of a.lines.now in
    let i = c.loop-p.invariant in
    let p = c.loop-p.p in
    let next = plan_from a.side (a.left - 1) in
    let r = rw (made 225 p c.new.ensures c.unwrap-code.ensures) at c.attack_on-n.ensures in
    let r0 = r.0 ∙ ap (λ (l : List ℕ). length (line_from a.side next (cells_of l) p)) i.0 in
    let r1 = r.1 ∙ ap (λ (u : List ℕ). sets u a.at (line_from a.side next (cells_of c.loop-p.lines) p)) i.1
    ∙ ap (λ (l : List ℕ). sets a.out.now a.at (line_from a.side next (cells_of l) p)) i.0 in
    let g = gives a.out.now a.at (plan-step a.side a.left C c.if-left-eq0.false
    ∙ first-here (line_from a.side next C) p i.3 (λ z. c.if-n-ne0.true (r0 ∙ z)) 225 c.loop-p-test.true) in
    (r0 ∙ g.0, r1 ∙ g.1, r.2 ∙ i.0)

pub plan_on-loop-p-preserved : goal.plan_on-loop-p-preserved
plan_on-loop-p-preserved t c =
    let a = c.args in
    let C = cells_of a.lines.now in
    let i = c.loop-p.invariant in
    let p = c.loop-p.p in
    let next = plan_from a.side (a.left - 1) in
    let r = rw (made 225 p c.new.ensures c.unwrap-code.ensures) at c.attack_on-n.ensures in
    let r0 = r.0 ∙ ap (λ (l : List ℕ). length (line_from a.side next (cells_of l) p)) i.0 in
    let r1 = r.1 ∙ ap (λ (u : List ℕ). sets u a.at (line_from a.side next (cells_of c.loop-p.lines) p)) i.1
    ∙ ap (λ (l : List ℕ). sets a.out.now a.at (line_from a.side next (cells_of l) p)) i.0 in
    let same = r.2 ∙ i.0 in
    let n = subst (λ (l : List ℕ). NextTry a.tries.now (cells_of l) (p + 1) c.next_try-p-in-loop-p.result) same c.next_try-p-in-loop-p.ensures in
    let z = sym c.if-n-ne0.false ∙ r0 in (
      same,
      r1 ∙ ap (sets a.out.now a.at) (nil-of (line_from a.side next C p) z),
      n.le,
      skip-to a.side C (length-cells_of a.lines.now) c.requires.1 a.tries.now c.requires.3 (a.left - 1) n
          (omega (arith, c.loop-p-test.true)) (first_more (line_from a.side next C) p i.3 z),
    )

pub plan_on-returns : goal.plan_on-returns
plan_on-returns t c =
    let a = c.args in
    let C = cells_of a.lines.now in
    let i = c.loop-p.invariant in
    let next = plan_from a.side (a.left - 1) in
    let e : c.loop-p.p ≡ 225 = omega (arith, c.loop-p-test.false, i.2) in
    let g = gives a.out.now a.at (plan-step a.side a.left C c.if-left-eq0.false
    ∙ ap (λ (n : ℕ). first_line n (line_from a.side next C)) (sym e) ∙ i.3) in
    (g.0, i.1 ∙ g.1, i.0)
