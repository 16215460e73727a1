-- The stored lines: 72 lines in 144 masks. The meaning of a board is its 225 cells; here are the lines of cells, the cells that lines show,
-- and what put, remove and the starts of rows are on any masks. On sound lines they are what the rules say (proofs/).
use Rattle.std.specs.Prelude.{◌≡◌, Bool, true, false, ◌&&◌, cond, List, [], ◌∷◌, ℕ, zero, suc, ◌+◌, ◌%◌, eqb, ltb, get_or, set}
use Rattle.rules.specs.Numbers.{colour_no, player_of, is_colour, is_black, opponent_of}
use Rattle.rules.specs.Refusals.{unsound, unless}
use Rattle.rules.specs.Tools.{tab}
use Rattle.rules.specs.Bit.{bit, mask_of}
use Rattle.rules.specs.Line.{Stones, row_at, through}
use Rattle.rules.specs.Point.{x_of, y_of, cell_no, key_at, key_dir, key_no, key_size}
use Rattle.rules.specs.Grid.{Change, put_at, remove_at, stone_at, value_of}
use Rattle.rules.specs.declared.Player.{Player}
use Rattle.rules.specs.declared.Player.TheVariants.{Black, White}
use Rattle.rules.specs.declared.RowKind.{RowKind}
use Rattle.lent.specs.Lists.{zeros}
use Rattle.masks.specs.Masks.{placed}
use Rattle.point.specs.Places.{has_place, place_by}
use Rattle.point.specs.declared.place.Place.{Place}

-- ---- the masks

-- entry k is the black mask of the line of key k, entry 72 + k its white mask
abbrev pub entry_no : Player → ℕ → ℕ
entry_no Black k = k
entry_no White k = 72 + k

-- and back: whose mask an entry is
abbrev pub owner_of : ℕ → Player
owner_of e = cond (ltb e 72) Black White

-- the mask of the player's stones on the line of key k, 0 for a key over 71
unfoldable pub mask_on : Player → List ℕ → ℕ → ℕ
mask_on r l k = cond (ltb k 72) (get_or l (entry_no r k) 0) 0

-- cell j of that line shows a stone of the player's
abbrev pub shows : Player → List ℕ → ℕ → Stones
shows r l k = bit (mask_on r l k)

-- the masks of the player's stones on the lines through p: on the one in direction d, 0 where it is not stored; on all four
abbrev pub mask_through : List ℕ → ℕ → Player → ℕ → ℕ
mask_through l p r d = cond (has_place d p) (mask_on r l (key_at d p)) 0

unfoldable pub masks_through : List ℕ → ℕ → Player → List ℕ
masks_through l p r = tab 4 (mask_through l p r)

-- the same by a lent table of addresses; by section 3's it is as above (proofs/Placed.antt, masks-by)
abbrev pub mask_by : List ℕ → List ℕ → ℕ → Player → ℕ → ℕ
mask_by l table p r d = cond (place_by table d p).stored (mask_on r l (place_by table d p).key) 0

unfoldable pub masks_by : List ℕ → List ℕ → ℕ → Player → List ℕ
masks_by l table p r = tab 4 (mask_by l table p r)

-- ---- the lines of cells, and the cells of lines

-- entry e of the lines of a board with these cells: bit j is on where cell j of its line holds a stone of its owner's
unfoldable pub entry_of : List ℕ → ℕ → ℕ
entry_of cells e = mask_of 16 (stone_at (owner_of e) cells (key_dir (e % 72)) (key_no (e % 72)))

unfoldable pub lines_of : List ℕ → List ℕ
lines_of cells = tab 144 (entry_of cells)

-- what the vertical line through p shows at p
unfoldable pub cell_of : List ℕ → ℕ → ℕ
cell_of l p = value_of (bit (get_or l (x_of p) 0) (y_of p)) (bit (get_or l (72 + x_of p) 0) (y_of p))

unfoldable pub cells_of : List ℕ → List ℕ
cells_of l = tab 225 (cell_of l)

-- Lines are sound that are the lines of their own cells: no bit outside a line, no cell with both colours, and every stored line through a
-- point agrees on it (section 1's wording is Agreed.antt, and the two are shown to be one in proofs/).
unfoldable pub Sound : List ℕ → Type 0
Sound l = l ≡ lines_of (cells_of l)

-- the same as a test
unfoldable pub same_list : List ℕ → List ℕ → Bool
same_list [] [] = true
same_list [] (y ∷ m) = false
same_list (x ∷ l) [] = false
same_list (x ∷ l) (y ∷ m) = eqb x y && same_list l m

unfoldable pub is_sound : List ℕ → Bool
is_sound l = same_list l (lines_of (cells_of l))

-- "9 unsound board"
unfoldable pub lines_refusal : List ℕ → ℕ
lines_refusal l = unless (is_sound l) unsound

-- ---- put and remove: a cell's value v (0 empty, 1 black, 2 white) written on the lines

-- at cell j of the line of key k
unfoldable pub write_line : List ℕ → ℕ → ℕ → ℕ → List ℕ
write_line l k j v =
    set (set l k (mask_of 16 (placed (bit (get_or l k 0)) j (eqb v 1)))) (72 + k) (mask_of 16 (placed (bit (get_or l (72 + k) 0)) j (eqb v 2)))

-- on the line through p in direction d, if it is stored
unfoldable pub write_in : List ℕ → ℕ → ℕ → ℕ → List ℕ
write_in l d p v = cond (has_place d p) (write_line l (key_at d p) (cell_no d p) v) l

-- on all four
unfoldable pub write_on : List ℕ → ℕ → ℕ → List ℕ
write_on l p v = write_in (write_in (write_in (write_in l 0 p v) 1 p v) 2 p v) 3 p v

-- ---- a stone of the player's set on the lines, or taken off: its bit in the masks of that colour alone. At a point where no stone of the
-- other colour stands that is the write of its value, or of 0 (proofs/Marked.antt).

-- at cell j of the line of key k
unfoldable pub mark_line : List ℕ → ℕ → ℕ → Player → Bool → List ℕ
mark_line l k j r on = set l (entry_no r k) (mask_of 16 (placed (bit (get_or l (entry_no r k) 0)) j on))

-- on the line through p in direction d, if it is stored
unfoldable pub mark_in : List ℕ → ℕ → ℕ → Player → Bool → List ℕ
mark_in l d p r on = cond (has_place d p) (mark_line l (key_at d p) (cell_no d p) r on) l

-- on all four
unfoldable pub mark_on : List ℕ → ℕ → Player → Bool → List ℕ
mark_on l p r on = mark_in (mark_in (mark_in (mark_in l 0 p r on) 1 p r on) 2 p r on) 3 p r on

-- the same by a lent table of addresses; by section 3's it is as above (proofs/Placed.antt, mark-by)
unfoldable pub mark_place : List ℕ → Place → Player → Bool → List ℕ
mark_place l a r on = cond a.stored (mark_line l a.key a.cell r on) l

unfoldable pub mark_by : List ℕ → List ℕ → ℕ → Player → Bool → List ℕ
mark_by l table p r on =
    mark_place (mark_place (mark_place (mark_place l (place_by table 0 p) r on) (place_by table 1 p) r on) (place_by table 2 p) r on)
    (place_by table 3 p) r on

abbrev pub add_on : List ℕ → ℕ → Player → List ℕ
add_on l p r = mark_on l p r true

abbrev pub lift_on : List ℕ → ℕ → Player → List ℕ
lift_on l p r = mark_on l p r false

-- ---- the lines of cells, and whether lines are sound, by a lent table of addresses; by section 3's it is as above (proofs/Built.antt)

-- the lines of the first n cells, stone by stone; of all cells
unfoldable pub built_by : List ℕ → List ℕ → ℕ → List ℕ
built_by cells table zero = zeros 144
built_by cells table (suc n) =
    cond (is_colour (get_or cells n 0)) (mark_by (built_by cells table n) table n (player_of (get_or cells n 0)) true) (built_by cells table n)

abbrev pub lines_by : List ℕ → List ℕ → List ℕ
lines_by cells table = built_by cells table 225

-- ---- a sequence of puts and removes, one after the other
unfoldable pub play_lines : List Change → List ℕ → List ℕ
play_lines [] l = l
play_lines (put_at r p ∷ changes) l = play_lines changes (write_on l p (colour_no r))
play_lines (remove_at p ∷ changes) l = play_lines changes (write_on l p 0)

-- ---- the starts of the player's rows of the kind through p: on the line in direction d, 0 where it is not stored; on all four
unfoldable pub starts_in : List ℕ → ℕ → Player → RowKind → ℕ → ℕ
starts_in l p r k d =
    cond (has_place d p)
    (mask_of 16 (λ j.
    row_at (is_black r) (key_size (key_at d p)) (shows r l (key_at d p)) (shows (opponent_of r) l (key_at d p)) k j && through k (cell_no d p) j))
    0

-- .. on the line of a place, which an address gives (proofs/Placed.antt, starts-at)
unfoldable pub starts_at : List ℕ → Place → Player → RowKind → ℕ
starts_at l a r k =
    cond a.stored
    (mask_of 16 (λ j. row_at (is_black r) (key_size a.key) (shows r l a.key) (shows (opponent_of r) l a.key) k j && through k a.cell j))
    0

unfoldable pub starts_on : List ℕ → ℕ → Player → RowKind → List ℕ
starts_on l p r k = tab 4 (starts_in l p r k)

-- .. by a lent table (proofs/Placed.antt, starts-by)
unfoldable pub starts_by : List ℕ → List ℕ → ℕ → Player → RowKind → List ℕ
starts_by l table p r k = tab 4 (λ d. starts_at l (place_by table d p) r k)
