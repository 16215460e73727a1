-- `game::turn::is_kind_on` meets its contract. Assumes nothing.
use Rattle.game.proofs.Read.{asked-lines, kind-told, never-refused}
use Rattle.game.proofs.turn.is_kind_on.Goals as goal

pub returns-in-Ok : goal.returns-in-Ok
returns-in-Ok c =
    rw (← c.get.ensures.value)
    (kind-told (asked-lines c.args.lines.now c.get.result c.get.ensures.below c.cells_on-cells.ensures c.forbidden_strict_of.ensures)
    c.in-Ok.is c.is_none.ensures)

pub returns-in-Err : goal.returns-in-Err
returns-in-Err c =
    absurd
    (never-refused (asked-lines c.args.lines.now c.get.result c.get.ensures.below c.cells_on-cells.ensures c.forbidden_strict_of.ensures)
    c.in-Err.is)
