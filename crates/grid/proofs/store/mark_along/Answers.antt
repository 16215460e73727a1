-- `grid::store::mark_along` meets its contract: one bit of the entry that the address and the player name. Assumes nothing.
use Rattle.grid.proofs.Placed.{entry-by, marked_by, not-marked-by}
use Rattle.grid.proofs.store.mark_along.Goals as goal

pub bounds-lines-k : goal.bounds-lines-k
bounds-lines-k c =
    let a = c.args in
    rw c.entry_no-k.ensures
    (entry-by c.address_by-a.result a.table.now a.d a.code c.address_by-a.ensures a.player)

pub bounds-lines-k-then-a : goal.bounds-lines-k-then-a
bounds-lines-k-then-a c =
    let a = c.args in
    rw c.entry_no-k.ensures
    (entry-by c.address_by-a.result a.table.now a.d a.code c.address_by-a.ensures a.player)

pub returns-then-a : goal.returns-then-a
returns-then-a c =
    let a = c.args in
    rw (c.set_bit.ensures, c.entry_no-k.ensures)
    (marked_by c.address_by-a.result a.table.now a.d a.code c.address_by-a.ensures a.lines.now a.player a.on
    c.if-a.true)

pub returns-else-a : goal.returns-else-a
returns-else-a c =
    let a = c.args in
    not-marked-by c.address_by-a.result a.table.now a.d a.code c.address_by-a.ensures a.lines.now
    a.player a.on c.if-a.false
