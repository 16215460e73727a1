-- `hint::front::planned` meets its contract. Assumes nothing.
use mathlib.Core.Path.{refl, ap, sym, ◌∙◌}
use mathlib.Core.Bool.{◌&&◌, not}
use mathlib.Core.List.{List}
use native.Mathlib.Omega.{arith}
use lib.ListN.{length}
use lib.Seq.{sets}
use Rattle.std.proofs.lemmas.List.{length-take-le}
use Prim.Native.Nat.{ℕ}
use Rattle.grid.specs.Lines.{cells_of}
use Rattle.rules.specs.Numbers.{opponent_of}
use Rattle.rules.specs.Tools.{any_below}
use Rattle.hint.specs.Hint.{goes_on, completes}
use Rattle.hint.specs.Planner.{plan_from, plan_of}
use Rattle.hint.proofs.Checked.{open-on, open-quiet}
use Rattle.hint.proofs.Searched.{shut-plan, open-plan, plan-fits}
use Rattle.hint.proofs.Fronts.{lines-sound, lines-cells, kept-line}
use Rattle.hint.proofs.front.planned.Goals as goal

pub is_open-requires : goal.is_open-requires
is_open-requires c =
    lines-sound c.args.cells.now c.requires.0 c.lines_of-lines.ensures

pub returns-then-not-is_open : goal.returns-then-not-is_open
returns-then-not-is_open c =
    let a = c.args in
    let same = lines-cells a.cells.now c.requires.0 c.lines_of-lines.ensures in
    c.new-line.ensures
    ∙ sym (shut-plan a.side a.limit a.cells.now
    (c.is_open.ensures ∙ ap (λ (C : List ℕ). goes_on C && not (any_below 225 (completes (opponent_of a.side) C))) same)
    (c.if-not-is_open.true))

pub tries_of-tries-requires : goal.tries_of-tries-requires
tries_of-tries-requires c =
    lines-sound c.args.cells.now c.requires.0 c.lines_of-lines.ensures

pub plan_on-count-requires : goal.plan_on-count-requires
plan_on-count-requires c =
    let a = c.args in
    let h = c.requires.1 in (
      lines-sound a.cells.now c.requires.0 c.lines_of-lines.ensures,
      open-quiet a.side (cells_of c.lines_of-lines.result) c.is_open.ensures c.if-not-is_open.false,
      omega arith,
      c.tries_of-tries.ensures,
    )

pub slice_bounds-points-end : goal.slice_bounds-points-end
slice_bounds-points-end c =
    let a = c.args in
    let same = lines-cells a.cells.now c.requires.0 c.lines_of-lines.ensures in
    let opened = c.is_open.ensures ∙ ap (λ (C : List ℕ). goes_on C && not (any_below 225 (completes (opponent_of a.side) C)))
    same in
    let is = ap (plan_from a.side a.limit) same ∙ open-plan a.side a.limit a.cells.now opened
    (open-on a.side a.cells.now opened c.if-not-is_open.false) in
    let fits = plan-fits a.side a.limit a.cells.now c.requires.1 in
    let p = c.plan_on-count.ensures in
    omega (arith, p.0, ap length is)

pub slice_bounds-keep-end : goal.slice_bounds-keep-end
slice_bounds-keep-end c =
    let a = c.args in
    let same = lines-cells a.cells.now c.requires.0 c.lines_of-lines.ensures in
    let opened = c.is_open.ensures ∙ ap (λ (C : List ℕ). goes_on C && not (any_below 225 (completes (opponent_of a.side) C)))
    same in
    let is = ap (plan_from a.side a.limit) same ∙ open-plan a.side a.limit a.cells.now opened
    (open-on a.side a.cells.now opened c.if-not-is_open.false) in
    let fits = plan-fits a.side a.limit a.cells.now c.requires.1 in
    let p = c.plan_on-count.ensures in
    sym (length-take-le c.plan_on-count.result c.plan_on-count.new.out (omega (arith, p.0, ap length is)))

pub returns : goal.returns
returns c =
    let a = c.args in
    let same = lines-cells a.cells.now c.requires.0 c.lines_of-lines.ensures in
    let opened = c.is_open.ensures ∙ ap (λ (C : List ℕ). goes_on C && not (any_below 225 (completes (opponent_of a.side) C)))
    same in
    let is = ap (plan_from a.side a.limit) same ∙ open-plan a.side a.limit a.cells.now opened
    (open-on a.side a.cells.now opened c.if-not-is_open.false) in
    let p = c.plan_on-count.ensures in
    kept-line (plan_of a.side a.limit a.cells.now) _ refl c.new-line.ensures (p.0 ∙ ap length is) (p.1 ∙ ap (sets _ 0) is)
    (plan-fits a.side a.limit a.cells.now c.requires.1) c.keep.ensures
