-- `grid::through::stones_along` meets its contract: the entries that the address names for both players. Assumes nothing.
use mathlib.Core.Path.{ap, ◌∙◌}
use Rattle.rules.specs.declared.Player.{Player}
use Rattle.grid.specs.Lines.{mask_by}
use Rattle.grid.proofs.Placed.{entry-by, mask-by}
use Rattle.grid.proofs.through.stones_along.Goals as goal

pub bounds-lines-k : goal.bounds-lines-k
bounds-lines-k c =
    let a = c.args in
    rw c.entry_no-k.ensures
    (entry-by c.address_by-a.result a.table.now a.d a.code c.address_by-a.ensures a.player)

pub bounds-lines-o : goal.bounds-lines-o
bounds-lines-o c =
    let a = c.args in
    rw c.entry_no-o.ensures
    (entry-by c.address_by-a.result a.table.now a.d a.code c.address_by-a.ensures c.opponent.result)

pub returns-then-a : goal.returns-then-a
returns-then-a c =
    let a = c.args in (
      rw c.entry_no-k.ensures
          (mask-by c.address_by-a.result a.table.now a.d a.code c.address_by-a.ensures a.lines.now a.player
          c.if-a.true),
      rw c.entry_no-o.ensures
          (mask-by c.address_by-a.result a.table.now a.d a.code c.address_by-a.ensures a.lines.now
          c.opponent.result c.if-a.true)
          ∙ ap (λ (r : Player). mask_by a.lines.now a.table.now a.code r a.d) c.opponent.ensures,
    )
