-- `near::wide::windows_of` meets its contract. Assumes nothing.
use Rattle.rules.specs.Bit.{bit}
use Rattle.rules.specs.Line.{count}
use Rattle.rules.proofs.Windows.{count-le}
use Rattle.masks.proofs.Held.{holds-two, holds-three, holds-four}
use Rattle.near.specs.Windows.{alive_with, free_with}
use Rattle.near.proofs.Places.{alive-mask}
use Rattle.near.proofs.wide.windows_of.Goals as goal

pub returns : goal.returns
unfolding alive_with free_with
returns c =
    let own = bit c.args.own in
    let few = count-le own in
    let free = c.free_windows-free.ensures in
    let alive = alive-mask c.args.black own (bit c.args.blocked) free c.beside_windows.ensures in
    let n = c.tally-n.ensures in (
      holds-two 64 (count own) few _ alive n,
      holds-three 64 (count own) few _ alive n,
      holds-four 64 (count own) few _ alive n,
      holds-four 64 (count own) few _ free n,
    )
