-- `game::turn::add_black` meets its contract. Assumes nothing.
use mathlib.Core.Path.{◌∙◌}
use mathlib.Core.Bool.{true}
use Rattle.rules.specs.declared.Player.TheVariants.{Black}
use Rattle.grid.proofs.Placed.{mark-by}
use Rattle.game.proofs.turn.add_black.Goals as goal

pub returns : goal.returns
returns c =
    rw (← c.get.ensures.value) (c.add_by.ensures ∙ mark-by c.args.lines.now _ c.get.result Black true c.numbers.ensures)
