-- `display::line_text::line_in` meets its contract: the cells one step apart are those of the line. Assumes nothing.
use mathlib.Core.Path.{ap, ◌∙◌}
use mathlib.Core.List.{List, ◌++◌}
use Prim.Native.Nat.{ℕ}
use native.Mathlib.Omega.{arith}
use lib.ListN.{length}
use Rattle.display.specs.Texts.{line_text, stepped}
use Rattle.display.proofs.Steps.{line-steps}
use Rattle.display.proofs.line_text.line_in.Goals as goal

pub line_into-requires : goal.line_into-requires
line_into-requires c =
    let none = ap length c.new-text.ensures in
    (omega arith, (omega arith, omega arith, omega arith, c.requires))

pub returns : goal.returns
returns c =
    let l = c.args.line in
    c.line_into.ensures
    ∙ ap (λ (x : List ℕ). x ++ line_text l.size (stepped c.cells_in-cells.result 0 1)) c.new-text.ensures
    ∙ ap (λ (x : List ℕ). line_text l.size (stepped x 0 1)) c.cells_in-cells.ensures
    ∙ line-steps l c.requires
