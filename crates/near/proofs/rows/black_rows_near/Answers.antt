-- `near::rows::black_rows_near` meets its contract. Assumes nothing.
use mathlib.Core.Path.{refl}
use mathlib.Core.Bool.{true}
use Rattle.near.proofs.Lanes.{rows_are}
use Rattle.near.proofs.rows.black_rows_near.Goals as goal

pub returns : goal.returns
returns c =
    rows_are c.args.blacks c.args.whites c.args.code true c.outside-off.ensures c.joined.ensures
    c.joined-2.ensures refl refl c.windows_of.ensures c.rows_from.ensures
