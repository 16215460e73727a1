-- `game::turn::white_four_by` meets its contract. Assumes nothing.
use Rattle.rules.specs.declared.Player.TheVariants.{Black, White}
use Rattle.grid.specs.Lines.{cells_of}
use Rattle.game.proofs.Read.{four-seen, masks-read}
use Rattle.game.proofs.turn.white_four_by.Goals as goal

pub returns : goal.returns
returns c =
    let l = c.args.lines.now in
    let p = c.get-code.result in
    let x = c.stones_by-stones in
    let hp = c.get-code.ensures.below in
    rw (← c.get-code.ensures.value)
    (four-seen White (cells_of l) x.result.own x.result.other p hp
    (masks-read White l p c.requires hp c.numbers.ensures x.ensures.0)
    (masks-read Black l p c.requires hp c.numbers.ensures x.ensures.1)
    c.white_four_near.ensures)
