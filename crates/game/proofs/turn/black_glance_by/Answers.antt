-- `game::turn::black_glance_by` meets its contract. Assumes nothing.
use mathlib.Core.Path.{refl}
use Rattle.rules.specs.declared.Player.TheVariants.{Black, White}
use Rattle.grid.specs.Lines.{cells_of}
use Rattle.game.proofs.Read.{four-seen, may-seen, masks-read}
use Rattle.game.proofs.turn.black_glance_by.Goals as goal

pub returns : goal.returns
returns c =
    let l = c.args.lines.now in
    let p = c.get-code.result in
    let x = c.stones_by-stones in
    let hp = c.get-code.ensures.below in
    let own = masks-read Black l p c.requires hp c.numbers.ensures x.ensures.0 in
    let other = masks-read White l p c.requires hp c.numbers.ensures x.ensures.1 in
    rw (← c.get-code.ensures.value) (
      four-seen Black (cells_of l) x.result.own x.result.other p hp own other c.black_glance_near.ensures.0,
      may-seen Black (cells_of l) x.result.own x.result.other p hp own other refl c.black_glance_near.ensures.1,
    )
