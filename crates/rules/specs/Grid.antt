-- The board: 225 cells in code order, 0 empty, 1 black, 2 white; put and remove (section 3), and what is read off it line by line
-- (section 4). The quoted sentences are document 01's.
use Rattle.std.specs.Prelude.{Bool, not, ◌&&◌, ◌||◌, cond, List, [], ◌∷◌, ℕ, zero, suc, ◌+◌, ◌-◌, ◌/◌, ◌%◌, leb, ltb, eqb, get_or, set}
use Rattle.rules.specs.Numbers.{colour_no, is_black, opponent_of}
use Rattle.rules.specs.Tools.{tab, gather, only}
use Rattle.rules.specs.Bit.{bit, mask_of}
use Rattle.rules.specs.Line.{Stones, row_at, through, is_eye, eye_of_some, stones_mask, eyes_mask}
use Rattle.rules.specs.Point.{line_no, cell_no, line_size, point_at, key_dir, key_no, key_of}
use Rattle.rules.specs.declared.Player.{Player}
use Rattle.rules.specs.declared.RowKind.{RowKind}
use Rattle.rules.specs.declared.RowKind.TheVariants.{Four}

-- ---- cells

-- a cell's value by whether a black stone, or else a white one, stands on it
abbrev pub value_of : Bool → Bool → ℕ
value_of black white = cond black 1 (cond white 2 0)

-- a cell without a stone: neither black nor white
abbrev pub is_empty : ℕ → Bool
is_empty v = not (eqb v 1) && not (eqb v 2)

-- "Put replaces what stood there; remove of an empty point changes nothing." (proofs/Changes.antt, set-at and remove-none)
abbrev pub put : Player → List ℕ → ℕ → List ℕ
put r cells p = set cells p (colour_no r)

abbrev pub remove : List ℕ → ℕ → List ℕ
remove cells p = set cells p 0

-- A put or a remove, and a sequence of both: on the cells, and on a plain map. "Any sequence of both answers as a plain map from 225 points
-- to empty, black or white." (proofs/Changes.antt, play-map)
pub data Change : Type 0 where
  put_at : Player → ℕ → Change
  remove_at : ℕ → Change

unfoldable pub play : List Change → List ℕ → List ℕ
play [] cells = cells
play (put_at r p ∷ changes) cells = play changes (put r cells p)
play (remove_at p ∷ changes) cells = play changes (remove cells p)

unfoldable pub play_map : List Change → (ℕ → ℕ) → ℕ → ℕ
play_map [] map = map
play_map (put_at r p ∷ changes) map = play_map changes (λ q. cond (eqb q p) (colour_no r) (map q))
play_map (remove_at p ∷ changes) map = play_map changes (λ q. cond (eqb q p) 0 (map q))

-- how many points are empty
unfoldable pub empties : List ℕ → ℕ
empties [] = 0
empties (v ∷ cells) = cond (is_empty v) (suc (empties cells)) (empties cells)

-- "Points come as codes; lists of stones and of empty points ascend by code."
unfoldable pub stones_of : Player → List ℕ → List ℕ
stones_of r cells = gather 225 (λ p. only (eqb (get_or cells p 0) (colour_no r)) (p ∷ []))

unfoldable pub empty_points : List ℕ → List ℕ
empty_points cells = gather 225 (λ p. only (is_empty (get_or cells p 0)) (p ∷ []))

-- ---- the lines of a board

-- cell j of line i holds a stone of the player's
unfoldable pub stone_at : Player → List ℕ → ℕ → ℕ → Stones
stone_at r cells d i j = ltb j (line_size d i) && eqb (get_or cells (point_at d i j) 0) (colour_no r)

-- the player has a row of the kind at start j of line i
unfoldable pub row_on : Player → RowKind → List ℕ → ℕ → ℕ → ℕ → Bool
row_on r k cells d i j = row_at (is_black r) (line_size d i) (stone_at r cells d i) (stone_at (opponent_of r) cells d i) k j

-- cell e of line i is an eye of the player's row of the kind at start j
unfoldable pub eye_on : Player → RowKind → List ℕ → ℕ → ℕ → ℕ → ℕ → Bool
eye_on r k cells d i j e = is_eye (line_size d i) (stone_at r cells d i) (stone_at (opponent_of r) cells d i) k j e

-- the starts on the four lines through a point: direction, start → whether there is a row
abbrev pub Starts : Type 0
Starts = ℕ → ℕ → Bool

-- "four start masks travel together, one for each direction": bit j of mask d is start j of the line in direction d
unfoldable pub start_masks : Starts → List ℕ
start_masks s = tab 4 (λ d. mask_of 16 (s d))

-- and back: the starts that four masks name. A line has at most 15 cells, so bit 15 names none.
unfoldable pub starts_of : List ℕ → Starts
starts_of masks d j = ltb j 15 && bit (get_or masks d 0) j

-- Starts by their numbers, line by line: start j of the line in direction d is number 16d + j.
unfoldable pub numbered : Starts → ℕ → Bool
numbered s k = s (k / 16) (k % 16)

-- the first number of n from k on that passes, else 64
unfoldable pub first_of : (ℕ → Bool) → ℕ → ℕ → ℕ
first_of s zero k = 64
first_of s (suc n) k = cond (s k) k (first_of s n (suc k))

-- the first number from `from` on that passes, else 64
unfoldable pub next_from : (ℕ → Bool) → ℕ → ℕ
next_from s from = first_of s (64 - from) from

-- the player's rows of the kind through p, by direction and start. (A diagonal too short to be stored has no window, so no row.)
unfoldable pub rows_through : Player → RowKind → List ℕ → ℕ → Starts
rows_through r k cells p d j = through k (cell_no d p) j && row_on r k cells d (line_no d p) j

-- ---- lists

-- "in a lent output each is four bytes: key, start, stones mask, eyes mask (bit k for cell j + k)"
unfoldable pub row_bytes : Player → RowKind → List ℕ → ℕ → ℕ → ℕ → List ℕ
row_bytes r k cells d i j =
    key_of d i ∷ j ∷ stones_mask (stone_at r cells d i) j
    ∷ eyes_mask (line_size d i) (stone_at r cells d i) (stone_at (opponent_of r) cells d i) k j
    ∷ []

-- the rows of line i that pass a test, by start
unfoldable pub line_rows : Player → RowKind → List ℕ → ℕ → ℕ → (ℕ → Bool) → List ℕ
line_rows r k cells d i row = gather (line_size d i) (λ j. only (row j) (row_bytes r k cells d i j))

-- "Rows come by line key, then start"
abbrev pub key_rows : Player → RowKind → List ℕ → ℕ → List ℕ
key_rows r k cells key = line_rows r k cells (key_dir key) (key_no key) (row_on r k cells (key_dir key) (key_no key))

unfoldable pub rows_of : Player → RowKind → List ℕ → List ℕ
rows_of r k cells = gather 72 (key_rows r k cells)

-- the same of the rows through p, line by line
abbrev pub rows_in : Player → RowKind → List ℕ → ℕ → ℕ → List ℕ
rows_in r k cells p d = line_rows r k cells d (line_no d p) (rows_through r k cells p d)

unfoldable pub rows_on_point : Player → RowKind → List ℕ → ℕ → List ℕ
rows_on_point r k cells p = gather 4 (rows_in r k cells p)

-- cell e of the line through p is an eye of one of the player's Fours through p
unfoldable pub four_eye : Player → List ℕ → ℕ → ℕ → ℕ → Bool
four_eye r cells p d e =
    eye_of_some (line_size d (line_no d p)) (stone_at r cells d (line_no d p)) (stone_at (opponent_of r) cells d (line_no d p)) Four
    (rows_through r Four cells p d) e

-- "Four eyes through a point: line by line (vertical, horizontal, ascending, descending), each cell once a line, ascending."
-- "Through an empty point the point itself may come once for each line."
abbrev pub eyes_in : Player → List ℕ → ℕ → ℕ → List ℕ
eyes_in r cells p d = gather (line_size d (line_no d p)) (λ e. only (four_eye r cells p d e) (point_at d (line_no d p) e ∷ []))

unfoldable pub four_eyes : Player → List ℕ → ℕ → List ℕ
four_eyes r cells p = gather 4 (eyes_in r cells p)

-- cell c + s − n is on a line of this size
unfoldable pub on_line : ℕ → ℕ → ℕ → ℕ → Bool
on_line size c n s = leb n (c + s) && ltb (c + s - n) size

-- "`neighbors` takes distance d, 0 to 14, and names the cells from −d to +d in each direction in that order, short diagonals too, the
-- point itself each time; the empty-only form drops stones." Here the distance is n and s counts the cells from −n on.
abbrev pub neighbour_item : List ℕ → ℕ → ℕ → Bool → ℕ → ℕ → List ℕ
neighbour_item cells p n only_empty d s =
    only (on_line (line_size d (line_no d p)) (cell_no d p) n s
    && (not only_empty || is_empty (get_or cells (point_at d (line_no d p) (cell_no d p + s - n)) 0)))
    (point_at d (line_no d p) (cell_no d p + s - n) ∷ [])

abbrev pub neighbours_in : List ℕ → ℕ → ℕ → Bool → ℕ → List ℕ
neighbours_in cells p n only_empty d = gather (n + n + 1) (neighbour_item cells p n only_empty d)

unfoldable pub neighbours : List ℕ → ℕ → ℕ → Bool → List ℕ
neighbours cells p n only_empty = gather 4 (neighbours_in cells p n only_empty)
