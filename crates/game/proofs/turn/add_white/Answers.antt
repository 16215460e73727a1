-- `game::turn::add_white` meets its contract. Assumes nothing.
use mathlib.Core.Path.{◌∙◌}
use mathlib.Core.Bool.{true}
use Rattle.rules.specs.declared.Player.TheVariants.{White}
use Rattle.grid.proofs.Placed.{mark-by}
use Rattle.game.proofs.turn.add_white.Goals as goal

pub returns : goal.returns
returns c =
    rw (← c.get.ensures.value) (c.add_by.ensures ∙ mark-by c.args.lines.now _ c.get.result White true c.numbers.ensures)
