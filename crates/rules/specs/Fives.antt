-- The five that a stone makes, for either player (request 3). The quoted sentence is document 02's.
use Rattle.std.specs.Prelude.{Bool, List, ℕ}
use Rattle.rules.specs.Grid.{put, rows_through}
use Rattle.rules.specs.Forbidden.{some_row}
use Rattle.rules.specs.declared.Player.{Player}
use Rattle.rules.specs.declared.RowKind.TheVariants.{Five}

-- "Black's five is exactly five, White's five or more": a Five of section 4 through the stone that the player puts at p, on the board with
-- it. A Five is a window of five own stones that is not dead, and by the dead rule Black's has no black stone beside it; White has no such
-- rule (proofs/Fives.antt, black-five and white-five).
unfoldable pub makes_five : Player → List ℕ → ℕ → Bool
makes_five r cells p = some_row (rows_through r Five (put r cells p) p)
