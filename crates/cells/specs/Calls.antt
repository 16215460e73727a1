-- Cells that are changed where they stand, by calls that may be refused, and the same calls on a plain map from points to values.
use Rattle.std.specs.Prelude.{cond, List, [], ◌∷◌, ℕ, eqb}
use Rattle.rules.specs.Numbers.{player_of}
use Rattle.rules.specs.Refusals.{first, code_refusal, colour_refusal}
use Rattle.rules.specs.Grid.{Change, put_at, remove_at, put, remove, play_map}
use Rattle.cells.specs.Cells.{cells_refusal_at, cells_refusal_for}

-- ---- one call

-- cells that are lent, after a change: a refusal leaves them as they were
unfoldable pub changed : ℕ → List ℕ → List ℕ → List ℕ
changed refused old new = cond (eqb refused 0) new old

-- .. after a stone of the colour is put at a point, and after a point is made empty
unfoldable pub after_put : List ℕ → ℕ → ℕ → List ℕ
after_put cells p colour = changed (cells_refusal_for cells p colour) cells (put (player_of colour) cells p)

unfoldable pub after_remove : List ℕ → ℕ → List ℕ
after_remove cells p = changed (cells_refusal_at cells p) cells (remove cells p)

-- ---- any sequence of calls. "Any sequence of both answers as a plain map from 225 points to empty, black or white." (proofs/Mapped.antt)

-- a put with any two numbers, point and colour, or a remove with any number
pub data Call : Type 0 where
  call_put : ℕ → ℕ → Call
  call_remove : ℕ → Call

-- what is refused of a call on these cells
unfoldable pub call_refusal : Call → List ℕ → ℕ
call_refusal (call_put p colour) cells = cells_refusal_for cells p colour
call_refusal (call_remove p) cells = cells_refusal_at cells p

-- the cells after it
unfoldable pub call_cells : Call → List ℕ → List ℕ
call_cells (call_put p colour) cells = after_put cells p colour
call_cells (call_remove p) cells = after_remove cells p

-- the cells after calls, one after the other
unfoldable pub calls_cells : List Call → List ℕ → List ℕ
calls_cells [] cells = cells
calls_cells (call ∷ calls) cells = calls_cells calls (call_cells call cells)

-- what is refused of a call by its numbers alone: 8, then 12
unfoldable pub numbers_refusal : Call → ℕ
numbers_refusal (call_put p colour) = first (code_refusal p) (colour_refusal colour)
numbers_refusal (call_remove p) = code_refusal p

-- the change that a call asks for, and those of the calls that are not refused
abbrev pub change_of : Call → Change
change_of (call_put p colour) = put_at (player_of colour) p
change_of (call_remove p) = remove_at p

unfoldable pub taken : List Call → List Change
taken [] = []
taken (call ∷ calls) = cond (eqb (numbers_refusal call) 0) (change_of call ∷ taken calls) (taken calls)

-- calls on a plain map: what it holds at each point after them
unfoldable pub calls_map : List Call → (ℕ → ℕ) → ℕ → ℕ
calls_map calls = play_map (taken calls)
