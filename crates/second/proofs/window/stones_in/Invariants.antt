-- `second::window::stones_in` meets its contract: after k turns the first k cells are counted. Assumes nothing.
use mathlib.Core.Path.{◌≡◌}
use Prim.Native.Nat.{◌≤◌}
use Rattle.rules.specs.Point.{line_no}
use Rattle.rules.specs.Grid.{stone_at}
use Rattle.second.proofs.Counted.{count_to}
use Rattle.second.proofs.window.stones_in.Given as goal

abbrev pub invariant-loop-k : goal.invariant-loop-k
invariant-loop-k l = (l.n ≤ l.k) × (l.n ≡ count_to (stone_at l.player l.board l.d (line_no l.d l.code)) l.j l.k)
