-- `hint::look::rows_for` meets its contract. Assumes nothing.
use mathlib.Core.Path.{◌∙◌, sym, ap, subst}
use mathlib.Core.Bool.{Bool}
use Rattle.rules.specs.Numbers.{opponent_of}
use Rattle.near.specs.Rows.{RowsAre, seen}
use Rattle.grid.specs.Lines.{cells_of, masks_through}
use Rattle.grid.proofs.Placed.{masks-by}
use Rattle.referee.specs.Referee.{MasksOf}
use Rattle.referee.proofs.RowsSeen.{rows_seen, masks-sound}
use Rattle.hint.proofs.look.rows_for.Goals as goal

pub returns : goal.returns
returns c =
    let l = c.args.lines.now in
    let p = c.get-code.result in
    let r = c.args.player in
    rw (← c.get-code.ensures.value)
    (rows_seen r (cells_of l) c.masks_by.result c.masks_by-2.result p c.get-code.ensures.below
    (subst (MasksOf r (cells_of l) p) (sym (c.masks_by.ensures ∙ masks-by l _ p r c.numbers-numbers.ensures))
    (masks-sound r l p c.requires c.get-code.ensures.below))
    (subst (MasksOf (opponent_of r) (cells_of l) p)
    (sym (c.masks_by-2.ensures ∙ masks-by l _ p _ c.numbers-numbers.ensures ∙ ap (masks_through l p) c.opponent.ensures))
    (masks-sound (opponent_of r) l p c.requires c.get-code.ensures.below))
    (subst (λ (x : Bool). RowsAre (seen x c.masks_by.result c.masks_by-2.result p) c.rows_near.result) c.is_black.ensures
    c.rows_near.ensures))
