-- `second::list::is_four_eye` meets its contract: after j turns no Four that starts below j has the eye. Assumes nothing.
use mathlib.Core.Path.{◌≡◌}
use mathlib.Core.Bool.{false, ◌&&◌}
use Rattle.rules.specs.Tools.{any_below}
use Rattle.rules.specs.Point.{line_no}
use Rattle.rules.specs.Grid.{rows_through, eye_on}
use Rattle.rules.specs.declared.RowKind.TheVariants.{Four}
use Rattle.second.proofs.list.is_four_eye.Given as goal

abbrev pub invariant-loop-j : goal.invariant-loop-j
invariant-loop-j l = any_below l.j (λ x. rows_through l.player Four l.board l.code l.d x && eye_on l.player Four l.board l.d
    (line_no l.d l.code) x l.i) ≡ false
