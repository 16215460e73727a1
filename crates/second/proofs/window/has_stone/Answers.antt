-- `second::window::has_stone` meets its contract: off the line there is no stone, on it the cell says. Assumes nothing.
use mathlib.Core.Path.{sym}
use native.Mathlib.Omega.{arith}
use borrow.Author.Tests.{le-ltb}
use Rattle.rules.specs.Point.{line_no}
use Rattle.rules.proofs.Rows.{stone-in, stone-out}
use Rattle.second.proofs.window.has_stone.Goals as goal

pub returns-then-i-size_along : goal.returns-then-i-size_along
returns-then-i-size_along c =
    let a = c.args in
    rw (c.get.ensures.value, c.point_along.ensures, c.number.ensures)
    (sym (stone-in a.player a.board.now a.d (line_no a.d a.code) a.i (omega
    (arith, c.size_along.ensures, c.if-i-size_along.true))))

pub returns-else-i-size_along : goal.returns-else-i-size_along
returns-else-i-size_along c =
    let a = c.args in
    rw (le-ltb a.i c.size_along.result c.if-i-size_along.false)
    (sym (stone-out a.player a.board.now a.d (line_no a.d a.code) a.i (omega
    (arith, c.size_along.ensures, c.if-i-size_along.false))))
