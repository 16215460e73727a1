-- `grid::store::write_along` meets its contract: the address tells whether there is a line, and which. Assumes nothing.
use Rattle.grid.proofs.Placed.{place-fits, place-write, nowhere-write, by-addresses}
use Rattle.grid.proofs.store.write_along.Goals as goal

pub write_line-requires : goal.write_line-requires
write_line-requires c =
    let a = c.args in
    place-fits c.address_by-a.result a.d a.code (by-addresses a.d a.code c.address_by-a.ensures c.requires.1) c.requires.0
    c.if-a.true

pub returns-then-a : goal.returns-then-a
returns-then-a c =
    let a = c.args in
    rw c.write_line.ensures
    (place-write c.address_by-a.result a.d a.code (by-addresses a.d a.code c.address_by-a.ensures c.requires.1) a.lines.now
    a.value c.if-a.true)

pub returns-else-a : goal.returns-else-a
returns-else-a c =
    let a = c.args in
    nowhere-write c.address_by-a.result a.d a.code (by-addresses a.d a.code c.address_by-a.ensures c.requires.1) a.lines.now
    a.value c.if-a.false
