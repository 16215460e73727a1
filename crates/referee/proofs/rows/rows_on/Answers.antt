-- `referee::rows::rows_on` meets its contract. Assumes nothing.
use mathlib.Core.Path.{◌∙◌, sym, subst}
use mathlib.Core.Bool.{true}
use mathlib.Core.List.{List}
use Prim.Native.Nat.{ℕ}
use Rattle.rules.specs.Forbidden.{black_rows}
use Rattle.rules.specs.declared.Player.TheVariants.{Black, White}
use Rattle.near.specs.Rows.{RowsAre, seen}
use Rattle.grid.specs.Lines.{cells_of, masks_through}
use Rattle.grid.proofs.Placed.{masks-by}
use Rattle.referee.specs.Referee.{MasksOf, rows_by}
use Rattle.referee.proofs.RowsSeen.{rows_seen, masks-sound}
use Rattle.referee.proofs.rows.rows_on.Goals as goal

pub returns-clause-any : goal.returns-clause-any
returns-clause-any c =
    let l = c.args.lines.now in
    let p = c.get-p.result in
    let t = c.numbers.ensures in
    subst (λ (x : ℕ). RowsAre (rows_by l x) c.black_rows_near.result) c.get-p.ensures.value
    (subst (λ (m : List ℕ). RowsAre (seen true (masks_through l p Black) m p) c.black_rows_near.result)
    (c.stones_by-stones.ensures.1 ∙ masks-by l _ p White t)
    (subst (λ (m : List ℕ). RowsAre (seen true m c.stones_by-stones.result.other p) c.black_rows_near.result)
    (c.stones_by-stones.ensures.0 ∙ masks-by l _ p Black t) c.black_rows_near.ensures))

pub returns-clause-sound : goal.returns-clause-sound
returns-clause-sound c =
    let l = c.args.lines.now in
    let p = c.get-p.result in
    let hp = c.get-p.ensures.below in
    let t = c.numbers.ensures in
    λ s.
    subst (λ (x : ℕ). RowsAre (black_rows (cells_of l) x) c.black_rows_near.result) c.get-p.ensures.value
    (rows_seen Black (cells_of l) _ _ p hp
    (subst (MasksOf Black (cells_of l) p) (sym (c.stones_by-stones.ensures.0 ∙ masks-by l _ p Black t)) (masks-sound Black l p s hp))
    (subst (MasksOf White (cells_of l) p) (sym (c.stones_by-stones.ensures.1 ∙ masks-by l _ p White t)) (masks-sound White l p s hp))
    c.black_rows_near.ensures)
