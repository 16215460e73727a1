-- `lists::codes::keep_eyes` meets its contract: the cells that are kept are the eyes. Assumes nothing.
use mathlib.Core.Path.{ap, ap₂, ◌∙◌}
use mathlib.Core.List.{List, ◌++◌}
use Prim.Native.Nat.{ℕ, ◌<◌}
use native.Mathlib.Omega.{arith}
use Rattle.rules.specs.Bit.{bit}
use Rattle.rules.proofs.Address.{line-here}
use Rattle.grid.specs.Lines.{cells_of}
use Rattle.lists.specs.Lists.{cell_list}
use Rattle.lists.proofs.Shown.{eye-list}
use Rattle.lists.proofs.codes.keep_eyes.Goals as goal

pub keep_cells-requires : goal.keep_cells-requires
keep_cells-requires c =
    let a = c.args in
    let hd : a.d < 4 = omega (arith, c.get.ensures.value, c.get.ensures.below) in
    let hp : a.code < 225 = omega (arith, c.get-2.ensures.value, c.get-2.ensures.below) in
    (rw (c.line_no.ensures, c.get.ensures.value, c.get-2.ensures.value) (line-here a.d a.code hd hp), c.requires.1)

pub returns : goal.returns
returns c =
    let a = c.args in
    let no = rw (c.get.ensures.value, c.get-2.ensures.value) at c.line_no.ensures in
    c.keep_cells.ensures
    ∙ ap (λ (x : List ℕ). a.list.now ++ x)
    (ap₂ (λ (i m : ℕ). cell_list a.d i (bit m)) no c.eyes_along-eyes.ensures ∙ eye-list a.player (cells_of a.lines.now) a.code a.d)
