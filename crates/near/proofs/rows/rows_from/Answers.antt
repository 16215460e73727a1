-- `near::rows::rows_from` meets its contract. Assumes nothing.
use mathlib.Core.Path.{◌∙◌, ap}
use Rattle.near.specs.Places.{reaching}
use Rattle.near.proofs.Places.{reached}
use Rattle.near.proofs.rows.rows_from.Goals as goal

pub returns : goal.returns
returns c =
    let p = c.args.code in
    let h = c.spots-here.ensures in (
      reached 5 p _ h c.five_back-five.ensures c.parted.ensures,
      reached 4 p _ h c.four_back-four.ensures c.parted-2.ensures ∙ ap (reaching 4 p) c.over_rows.ensures,
      reached 5 p _ h c.five_back-five.ensures c.parted-3.ensures,
      reached 4 p _ h c.four_back-four.ensures c.parted-4.ensures ∙ ap (reaching 4 p) c.open_rows.ensures,
    )
