-- `near::glance::black_glance_near` meets its contract. Assumes nothing.
use mathlib.Core.Path.{refl}
use mathlib.Core.Bool.{true}
use Rattle.near.proofs.Lanes.{rows_are, four-told, may-told}
use Rattle.near.proofs.glance.black_glance_near.Goals as goal

pub returns : goal.returns
returns c =
    let a = c.args in
    let e = rows_are a.blacks a.whites a.code true c.outside-off.ensures c.joined.ensures c.joined-2.ensures refl
    refl c.windows_of.ensures c.rows_from-rows.ensures in (
      four-told a.blacks a.whites a.code true e c.some_row.ensures,
      may-told a.blacks a.whites a.code true e c.some_row-overline.ensures c.more_than_one-double_four.ensures
          c.more_than_one-double_two.ensures,
    )
