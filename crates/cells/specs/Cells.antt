-- What a board is: 225 cells, and the refusals about them (section 2). The quoted sentences are document 01's.
use Rattle.std.specs.Prelude.{◌≡◌, Bool, true, false, ◌&&◌, cond, List, [], ◌∷◌, ℕ, ◌≤◌, ◌<◌, eqb, leb, ltb, length, get_or}
use Rattle.rules.specs.Numbers.{opponent_of}
use Rattle.rules.specs.Refusals.{no_point, unsound, many_moves, unless, first, code_refusal, colour_refusal, distance_refusal}
use Rattle.rules.specs.Tools.{all_below, gather, only}
use Rattle.rules.specs.Grid.{Change, put_at, play}
use Rattle.rules.specs.declared.Player.{Player}
use Rattle.rules.specs.declared.Player.TheVariants.{Black, White}
use Rattle.lent.specs.Lists.{zeros}

-- "225 bytes in code order: 0 empty, 1 black, 2 white"
pub record Cells (cells : List ℕ) : Type 0 where
  pub long : length cells ≡ 225
  pub small : (p : ℕ) → p < 225 → get_or cells p 0 ≤ 2

-- ---- refusals, in section 2's order: 9, 8, 12

-- "9 .. cell bytes of other length or with a byte over 2"
unfoldable pub cells_refusal : List ℕ → ℕ
cells_refusal cells = unless (eqb (length cells) 225 && all_below 225 (λ p. leb (get_or cells p 0) 2)) unsound

-- "8 .. point code 225 to 255"
unfoldable pub codes_refusal : List ℕ → ℕ
codes_refusal codes = unless (all_below (length codes) (λ i. ltb (get_or codes i 0) 225)) no_point

-- of the moves of a game, document 02: "14 for more than 225 moves, before 8"
unfoldable pub moves_refusal : List ℕ → ℕ
moves_refusal moves = first (unless (leb (length moves) 225) many_moves) (codes_refusal moves)

-- of a question about a point of the cells; about a colour there; about a colour; about a point's neighbours
unfoldable pub cells_refusal_at : List ℕ → ℕ → ℕ
cells_refusal_at cells p = first (cells_refusal cells) (code_refusal p)

unfoldable pub cells_refusal_for : List ℕ → ℕ → ℕ → ℕ
cells_refusal_for cells p colour = first (cells_refusal_at cells p) (colour_refusal colour)

unfoldable pub cells_stones_refusal : List ℕ → ℕ → ℕ
cells_stones_refusal cells colour = first (cells_refusal cells) (colour_refusal colour)

-- "12 .. neighbour distance over 14"
unfoldable pub cells_neighbours_refusal : List ℕ → ℕ → ℕ → ℕ
cells_neighbours_refusal cells p n = first (cells_refusal_at cells p) (distance_refusal n)

-- ---- cells that are built

-- stones put one after the other, from the player's on: alternating, or all of that colour
unfoldable pub puts : Bool → Player → List ℕ → List Change
puts alternate r [] = []
puts alternate r (p ∷ codes) = put_at r p ∷ puts alternate (cond alternate (opponent_of r) r) codes

-- "Moves alternate from Black; a point met again is overwritten."
unfoldable pub moves_cells : List ℕ → List ℕ
moves_cells moves = play (puts true Black moves) (zeros 225)

-- "Stones: two comma lists, black then white"
unfoldable pub stones_cells : List ℕ → List ℕ → List ℕ
stones_cells blacks whites = play (puts false White whites) (play (puts false Black blacks) (zeros 225))

-- ---- the points whose cell has a value

abbrev pub value_item : List ℕ → ℕ → ℕ → List ℕ
value_item cells v p = only (eqb (get_or cells p 0) v) (p ∷ [])

unfoldable pub value_list : List ℕ → ℕ → List ℕ
value_list cells v = gather 225 (value_item cells v)
