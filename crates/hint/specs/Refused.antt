-- What is refused of a check and of a plan. The quoted sentences are document 02's.
use Rattle.std.specs.Prelude.{◌&&◌, List, ℕ, leb, length}
use Rattle.rules.specs.Refusals.{no_room, no_limit, unless, first, colour_refusal}
use Rattle.cells.specs.Cells.{cells_refusal, codes_refusal}

-- "21 for a limit outside 1 to 6"
unfoldable pub limit_refusal : ℕ → ℕ
limit_refusal n = unless (leb 1 n && leb n 6) no_limit

-- "Refusals: 9, 8, 12 for the side": 8 for a code of the list
unfoldable pub check_refusal : List ℕ → ℕ → List ℕ → ℕ
check_refusal cells colour list = first (first (cells_refusal cells) (codes_refusal list)) (colour_refusal colour)

-- "9, .. 12 for the side, then 21 for a limit outside 1 to 6, then 13 for an output under 11 bytes", whether there is a line or not
unfoldable pub plan_refusal : List ℕ → ℕ → ℕ → List ℕ → ℕ
plan_refusal cells colour limit out =
    first (first (first (cells_refusal cells) (colour_refusal colour)) (limit_refusal limit)) (unless (leb 11 (length out)) no_room)
