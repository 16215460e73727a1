-- `game::turn::said_on` meets its contract: the reason by its three tests, the five by the Fours. Assumes nothing.
use mathlib.Core.Path.{sym, ap, ◌∙◌}
use Prim.Native.Nat.{◌<◌}
use native.Mathlib.Omega.{arith}
use Rattle.grid.specs.Lines.{cells_of}
use Rattle.grid.proofs.Lines.{length-cells_of}
use Rattle.referee.proofs.Asked.{free-is}
use Rattle.game.specs.Game.{is_fault}
use Rattle.game.proofs.Read.{reason-told, point-free, five-seen, forbidden-told}
use Rattle.game.proofs.turn.said_on.Goals as goal

pub returns : goal.returns
returns c =
    let l = c.args.lines.now in
    let p = c.args.code in
    let hp : p < 225 = omega (arith, c.get.ensures.value, c.get.ensures.below) in
    let cell = rw c.get.ensures.value at c.cell_on-occupied.ensures in
    let why = c.lowest.ensures
    ∙ reason-told c.args.player c.args.won (cells_of l) p c.cell_on-occupied.result (free-is l p hp cell)
    (forbidden-told c.args.player (cells_of l) p (length-cells_of l) hp c.glance_by-seen.ensures.1 c.is_kind_where-forbidden.ensures)
    c.is_some.ensures in (
      why,
      (λ good.
          five-seen c.args.player (cells_of l) p (length-cells_of l) hp
          (point-free c.args.player c.args.won l p c.requires hp (ap is_fault (sym why) ∙ good)) c.glance_by-seen.ensures.0),
    )
