-- `grid::through::mask_along` meets its contract: the entry that the address and the player name. Assumes nothing.
use Rattle.grid.proofs.Placed.{entry-by, mask-by}
use Rattle.grid.proofs.through.mask_along.Goals as goal

pub bounds-lines-k : goal.bounds-lines-k
bounds-lines-k c =
    let a = c.args in
    rw c.entry_no-k.ensures
    (entry-by c.address_by-a.result a.table.now a.d a.code c.address_by-a.ensures a.player)

pub returns-then-a : goal.returns-then-a
returns-then-a c =
    let a = c.args in
    rw c.entry_no-k.ensures
    (mask-by c.address_by-a.result a.table.now a.d a.code c.address_by-a.ensures a.lines.now a.player
    c.if-a.true)
