-- Lines copied off a board, and the answers about them.
use Rattle.std.specs.Prelude.{Bool, cond, List, ℕ, Option, Some, None, Result}
use Rattle.rules.specs.Refusals.{first, direction_refusal}
use Rattle.rules.specs.Answers.{answer}
use Rattle.rules.specs.Bit.{mask_of}
use Rattle.rules.specs.Point.{line_no, line_size, stored_at, key_size}
use Rattle.rules.specs.Grid.{stone_at}
use Rattle.rules.specs.declared.Player.TheVariants.{Black, White}
use Rattle.rules.specs.declared.refusal.Refusal.{Refusal}
use Rattle.line.specs.declared.line.Line.{Line}
use Rattle.grid.specs.Lines.{mask_on}
use Rattle.board.specs.Boards.{cells, refusal_at}
use Rattle.board.specs.declared.board.Board.{Board}
use Rattle.lines.specs.declared.LinesOn.{LinesOn}

-- line i as a value
unfoldable pub line_of : List ℕ → ℕ → ℕ → Line
line_of cells d i =
    record { blacks = mask_of 16 (stone_at Black cells d i); whites = mask_of 16 (stone_at White cells d i); size = line_size d i }

-- the line of a key as the masks show it
unfoldable pub shown_line : List ℕ → ℕ → Line
shown_line l k = record { blacks = mask_on Black l k; whites = mask_on White l k; size = key_size k }

-- "An existing diagonal that is not stored answers "none", and is no refusal."
abbrev pub if_stored : Bool → Line → Option Line
if_stored stored l = cond stored (Some l) None

unfoldable pub stored_line : ℕ → Bool → Line → Result (Option Line) Refusal
stored_line refused stored l = answer refused (if_stored stored l)

-- the line through p in direction d, where there is one to copy; all four
unfoldable pub line_there : Board → ℕ → ℕ → Option Line
line_there b p d = if_stored (stored_at d p) (line_of (cells b) d (line_no d p))

unfoldable pub lines_through : Board → ℕ → LinesOn
lines_through b p =
    record {
      vertical = line_there b p 0;
      horizontal = line_there b p 1;
      ascending = line_there b p 2;
      descending = line_there b p 3;
    }

-- the line through p in direction d, with the refusals
unfoldable pub line_through : Board → ℕ → ℕ → Result (Option Line) Refusal
line_through b p d = answer (first (refusal_at b p) (direction_refusal d)) (line_there b p d)
