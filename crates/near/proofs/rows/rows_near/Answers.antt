-- `near::rows::rows_near` meets its contract. Assumes nothing.
use mathlib.Core.Path.{refl}
use Rattle.near.proofs.Lanes.{rows_are}
use Rattle.near.proofs.rows.rows_near.Goals as goal

pub returns : goal.returns
returns c =
    rows_are c.args.own c.args.other c.args.code c.args.black c.outside-off.ensures c.joined.ensures
    c.joined-2.ensures refl refl c.windows_of.ensures c.rows_from.ensures
