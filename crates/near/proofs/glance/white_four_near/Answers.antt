-- `near::glance::white_four_near` meets its contract. Assumes nothing.
use mathlib.Core.Path.{refl}
use mathlib.Core.Bool.{false}
use Rattle.near.proofs.Lanes.{rows_are, four-told}
use Rattle.near.proofs.glance.white_four_near.Goals as goal

pub returns : goal.returns
returns c =
    let a = c.args in
    four-told a.whites a.blacks a.code false
    (rows_are a.whites a.blacks a.code false c.outside-off.ensures c.joined.ensures c.joined-2.ensures refl refl
    c.windows_of.ensures c.rows_from-rows.ensures)
    c.some_row.ensures
