-- What the referee refuses, in section 2's order, and what it says beside a verdict.
use Rattle.std.specs.Prelude.{Bool, ◌&&◌, cond, List, ℕ, get_or, Some, None}
use Rattle.rules.specs.Refusals.{occupied, unless, first}
use Rattle.rules.specs.Grid.{is_empty}
use Rattle.rules.specs.Forbidden.{more_twos, strict_of}
use Rattle.grid.specs.Lines.{lines_of}
use Rattle.board.specs.declared.board.Board.{Board}
use Rattle.board.specs.Boards.{cells, refusal_at}
use Rattle.referee.specs.declared.ruling.Ruling.{Ruling}

-- "11 the plain verdict (`forbidden`) at an occupied point", after 9 and 8
unfoldable pub forbidden_refusal : Board → ℕ → ℕ
forbidden_refusal b p = first (refusal_at b p) (unless (is_empty (get_or (cells b) p 0)) occupied)

-- a stone may have to be tried at p for the verdict there: p is empty, and more than one Two goes through it
unfoldable pub is_tried : List ℕ → ℕ → Bool
is_tried cells p = is_empty (get_or cells p 0) && more_twos cells p

-- the verdict at p, with the lines of the cells where a stone may have to be tried for it
unfoldable pub ruling_of : List ℕ → ℕ → Ruling
ruling_of cells p = record { verdict = strict_of cells p; lines = cond (is_tried cells p) (Some (lines_of cells)) None }
