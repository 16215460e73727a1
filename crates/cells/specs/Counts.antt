-- How many stones each side has, of 225 cells (document 02, No. 7): "the numbers of points with that colour, defined on the points
-- themselves". How many points are empty is `empties` of the rules; the three together are 225 (proofs/Counts.antt, counts-all).
use Rattle.std.specs.Prelude.{List, ℕ, ◌+◌, ◌*◌, eqb, get_or}
use Rattle.rules.specs.Numbers.{colour_no}
use Rattle.rules.specs.Bit.{count_of}
use Rattle.rules.specs.declared.Player.{Player}
use Rattle.rules.specs.declared.Player.TheVariants.{Black, White}

-- the points that hold a stone of the player's
unfoldable pub stones_count : Player → List ℕ → ℕ
stones_count r cells = count_of 225 (λ p. eqb (get_or cells p 0) (colour_no r))

-- both in one number
abbrev pub counts_of : List ℕ → ℕ
counts_of cells = 256 * stones_count White cells + stones_count Black cells
