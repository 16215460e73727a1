-- `hint::tries::mark_along` meets its contract. Assumes nothing.
use Rattle.grid.specs.Lines.{cells_of}
use Rattle.grid.proofs.Placed.{by-addresses, place-fits}
use Rattle.hint.proofs.Bounded.{made, can_make}
use Rattle.hint.proofs.Marks.{kept_same, along-line, along-none}
use Rattle.hint.proofs.tries.mark_along.Goals as goal

pub unwrap-requires : goal.unwrap-requires
unwrap-requires c =
    let hd = rw c.get.ensures.value at c.get.ensures.below in
    let told = rw (c.get.ensures.value, c.get-2.ensures.value) at c.address_by-a.ensures in
    let a = c.args in
    let place = by-addresses a.d a.code told c.numbers.ensures in
    can_make 72 _ c.new.ensures (place-fits _ a.d a.code place hd c.if-a.true)

pub returns-then-a : goal.returns-then-a
returns-then-a c =
    let hd = rw c.get.ensures.value at c.get.ensures.below in
    let hp = rw c.get-2.ensures.value at c.get-2.ensures.below in
    let told = rw (c.get.ensures.value, c.get-2.ensures.value) at c.address_by-a.ensures in
    let a = c.args in (
      c.mark_line.ensures.0,
      along-line a.side (cells_of a.lines.now) a.d a.code hd
          hp
          (by-addresses a.d a.code told c.numbers.ensures)
          _ c.if-a.true (rw (made 72 _ c.new.ensures c.unwrap.ensures) at c.mark_line.ensures.1),
    )

pub returns-else-a : goal.returns-else-a
returns-else-a c =
    let hd = rw c.get.ensures.value at c.get.ensures.below in
    let hp = rw c.get-2.ensures.value at c.get-2.ensures.below in
    let told = rw (c.get.ensures.value, c.get-2.ensures.value) at c.address_by-a.ensures in
    let a = c.args in (
      kept_same _,
      along-none a.side (cells_of a.lines.now) a.d a.code hd
          hp
          (by-addresses a.d a.code told c.numbers.ensures)
          _ c.if-a.false,
    )
