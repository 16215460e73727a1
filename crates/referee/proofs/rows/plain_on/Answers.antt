-- `referee::rows::plain_on` meets its contract. Assumes nothing.
use mathlib.Core.Path.{refl, ◌∙◌}
use Rattle.grid.specs.Lines.{cells_of}
use Rattle.referee.proofs.RowsSeen.{plain-is, triable}
use Rattle.referee.proofs.rows.plain_on.Goals as goal

pub plain-requires : goal.plain-requires
plain-requires c =
    let l = c.args.lines.now in
    let s = c.requires.0 in
    λ t. triable (cells_of l) c.args.code (c.rows_on-rows.ensures.sound s) l s refl c.requires.1

pub returns : goal.returns
returns c =
    let l = c.args.lines.now in
    let p = c.args.code in
    (c.plain.ensures.0 ∙ plain-is (cells_of l) p (c.rows_on-rows.ensures.sound c.requires.0) l (λ h. refl), c.plain.ensures.1)
