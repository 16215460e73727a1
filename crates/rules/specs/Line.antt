-- Section 4: windows and rows on one line, cell by cell. The line has `size` cells; `own j` and `other j` say that cell j holds a stone of
-- the own colour, and of the other; `black` says that the own colour is Black. The quoted sentences are document 01's.
use Rattle.std.specs.Prelude.{ℕ, ◌+◌, ◌-◌, ◌%◌, Bool, true, false, not, ◌&&◌, ◌||◌, cond, eqb, leb, ltb, ℤ, pos, negsuc}
use Rattle.rules.specs.Tools.{any_below, all_below}
use Rattle.rules.specs.Bit.{digit, mask_of, count_of}
use Rattle.rules.specs.declared.RowKind.{RowKind}
use Rattle.rules.specs.declared.RowKind.TheVariants.{Two, Three, Straight, Sword, Four, Five, Overlining, Overlined}

-- which cells hold a stone of some colour
abbrev pub Stones : Type 0
Stones = ℕ → Bool

-- ---- windows

-- "A window at j is cells j to j+4, with j+5 at most the line's size."
unfoldable pub inside : ℕ → ℕ → Bool
inside size j = leb (j + 5) size

-- "It is free for a colour when it has no stone of the other."
unfoldable pub free : Stones → ℕ → Bool
free other j = not (other j) && not (other (j + 1)) && not (other (j + 2)) && not (other (j + 3)) && not (other (j + 4))

-- its own stones, 0 to 5
unfoldable pub count : Stones → ℕ → ℕ
count own j = digit (own j) + digit (own (j + 1)) + digit (own (j + 2)) + digit (own (j + 3)) + digit (own (j + 4))

-- an own stone stands at j−1 or j+5
unfoldable pub beside : Stones → ℕ → Bool
beside own j = leb 1 j && own (j - 1) || own (j + 5)

-- "It is dead if not free, and for Black also if a black stone stands at j−1 or j+5."
unfoldable pub dead : Bool → Stones → Stones → ℕ → Bool
dead black own other j = not (free other j) || black && beside own j

-- "Its score is its count of own stones, 0 to 5, and −1 if dead."
unfoldable pub score : Bool → Stones → Stones → ℕ → ℤ
score black own other j = cond (dead black own other j) (negsuc 0) (pos (count own j))

-- the window at j is on the line and its score is n, 0 or more (proofs/Windows.antt, scores-score)
unfoldable pub scores : Bool → ℕ → Stones → Stones → ℕ → ℕ → Bool
scores black size own other n j = inside size j && not (dead black own other j) && eqb (count own j) n

-- "`score_mask`, `count_mask` and `open_starts` read a number n modulo 8; 6 and 7 match nothing" (proofs/Windows.antt, scores-none and
-- holds-none: no window holds over 5)
abbrev pub read_number : ℕ → ℕ
read_number n = n % 8

-- the window at j is on the line and free and holds n own stones, "counted without the dead rule"
unfoldable pub holds : ℕ → Stones → Stones → ℕ → ℕ → Bool
holds size own other n j = inside size j && free other j && eqb (count own j) n

-- ---- rows

-- windows j−1 and j both pass
unfoldable pub pair_at : (ℕ → Bool) → ℕ → Bool
pair_at w j = leb 1 j && w (j - 1) && w j

-- no stone at cell i
unfoldable pub no_stone : Stones → Stones → ℕ → Bool
no_stone own other i = not (own i) && not (other i)

-- "windows j−1 and j both score [n] and cell j+4 is empty"
unfoldable pub open_at : Bool → ℕ → Stones → Stones → ℕ → ℕ → Bool
open_at black size own other n j = pair_at (scores black size own other n) j && no_stone own other (j + 4)

-- "windows j−1 and j are both free and both hold [n], counted without the dead rule"
unfoldable pub over_at : ℕ → Stones → Stones → ℕ → ℕ → Bool
over_at size own other n j = pair_at (holds size own other n) j

-- "Sword, Four, Five at j: score 3, 4, 5. Two, Three, Straight at j: windows j−1 and j both score 2, 3, 4 and cell j+4 is empty.
-- Overlining, Overlined at j: windows j−1 and j are both free and both hold 4, or both 5, counted without the dead rule."
-- A row of the kind, by the three tests of these sentences, each for a number of stones.
abbrev pub row_by : (ℕ → Bool) → (ℕ → Bool) → (ℕ → Bool) → RowKind → Bool
row_by opened scored over Two = opened 2
row_by opened scored over Three = opened 3
row_by opened scored over Straight = opened 4
row_by opened scored over Sword = scored 3
row_by opened scored over Four = scored 4
row_by opened scored over Five = scored 5
row_by opened scored over Overlining = over 4
row_by opened scored over Overlined = over 5

-- a row of the kind stands at j
unfoldable pub row_at : Bool → ℕ → Stones → Stones → RowKind → ℕ → Bool
row_at black size own other kind j =
    row_by (λ n. open_at black size own other n j) (λ n. scores black size own other n j) (λ n. over_at size own other n j) kind

-- the kinds on two windows: all but Sword, Four and Five
abbrev pub spans_two : RowKind → Bool
spans_two Two = true
spans_two Three = true
spans_two Straight = true
spans_two Sword = false
spans_two Four = false
spans_two Five = false
spans_two Overlining = true
spans_two Overlined = true

-- how many own stones each window of a row of the kind holds (proofs/Windows.antt, row-whole)
abbrev pub row_stones : RowKind → ℕ
row_stones Two = 2
row_stones Three = 3
row_stones Straight = 4
row_stones Sword = 3
row_stones Four = 4
row_stones Five = 5
row_stones Overlining = 4
row_stones Overlined = 5

-- how many cells from its start count as the row: its window, or the four cells that its two windows share
abbrev pub span : RowKind → ℕ
span k = cond (spans_two k) 4 5

-- i is one of the n cells from j on
unfoldable pub among : ℕ → ℕ → ℕ → Bool
among n j i = leb j i && ltb i (j + n)

-- "A row is through cell i when i is in its window, or, for the kinds on two windows, in the four shared cells j to j+3."
abbrev pub through : RowKind → ℕ → ℕ → Bool
through k i j = among (span k) j i

-- ---- eyes

-- cell i is on the line and empty
unfoldable pub empty_at : ℕ → Stones → Stones → ℕ → Bool
empty_at size own other i = ltb i size && no_stone own other i

-- "Eyes are the row's empty cells: of five cells, or of the shared four for Two, Three and Straight."
abbrev pub eye_span : RowKind → ℕ
eye_span Two = 4
eye_span Three = 4
eye_span Straight = 4
eye_span Sword = 5
eye_span Four = 5
eye_span Five = 5
eye_span Overlining = 5
eye_span Overlined = 5

-- the cells of a window that can be the row's eyes, as a mask
unfoldable pub eye_cells : RowKind → ℕ
eye_cells k = mask_of 5 (λ i. ltb i (eye_span k))

-- cell i is an eye of the row of the kind that stands at j
unfoldable pub is_eye : ℕ → Stones → Stones → RowKind → ℕ → ℕ → Bool
is_eye size own other k j i = among (eye_span k) j i && empty_at size own other i

-- cell i is an eye of some row of the kind, out of those rows that pass a test
unfoldable pub eye_of_some : ℕ → Stones → Stones → RowKind → (ℕ → Bool) → ℕ → Bool
eye_of_some size own other k row i = any_below 16 (λ j. row j && is_eye size own other k j i)

-- the stones of the window at j and the eyes of the row there as masks, "bit k for cell j + k"
unfoldable pub stones_mask : Stones → ℕ → ℕ
stones_mask own j = mask_of 5 (λ k. own (j + k))

unfoldable pub eyes_mask : ℕ → Stones → Stones → RowKind → ℕ → ℕ
eyes_mask size own other k j = mask_of 5 (λ i. is_eye size own other k j (j + i))

-- ---- lines and segments alone

-- cell i, of 16, has not both colours, and none where it is past the line's end
unfoldable pub sound_at : ℕ → Stones → Stones → ℕ → Bool
sound_at size own other i = not (own i && other i) && (ltb i size || no_stone own other i)

-- "A line alone is sound when no bit is outside its size and no cell has both colours."
unfoldable pub sound_line : ℕ → Stones → Stones → Bool
sound_line size own other = all_below 16 (sound_at size own other)

-- A segment is the seven cells around a window: the one before it, its five and the one after it. It is a line of seven cells with its
-- window at 1.
abbrev pub segment_size : ℕ
segment_size = 7

abbrev pub segment_at : ℕ
segment_at = 1

-- "A segment is sound when no cell has both colours and bit 7 is clear."
abbrev pub sound_segment : Stones → Stones → Bool
sound_segment own other = sound_line segment_size own other

-- cell k of the segment of the window at j is cell j + k − 1 of the line; before cell 0 there is none
unfoldable pub around : Stones → ℕ → Stones
around own j k = leb 1 (j + k) && own (j + k - 1)

-- its stones as a mask
abbrev pub segment_mask : Stones → ℕ → ℕ
segment_mask own j = mask_of segment_size (around own j)

-- the cells of the window at j where a five still wants a stone, none where the window is dead
unfoldable pub wanted : Bool → Stones → Stones → ℕ → ℕ
wanted black own other j = mask_of 5 (λ k. not (dead black own other j) && not (own (j + k)))

-- ---- what line.rs asks besides

-- cell i is s + k, "for s a set bit of the starts and k of the cells" (eight bits)
unfoldable pub spread_at : (ℕ → Bool) → (ℕ → Bool) → ℕ → Bool
spread_at starts cells i = any_below 8 (λ k. cells k && (leb k i && starts (i - k)))

-- "`eyes_of` gives the line's empty cells s + k"
unfoldable pub eyes_of : ℕ → Stones → Stones → (ℕ → Bool) → (ℕ → Bool) → ℕ → Bool
eyes_of size own other starts cells i = spread_at starts cells i && empty_at size own other i

-- "`score_bound` is 0 when the other colour has more than size − 5 stones on the line, else the own stones plus one." (Masks have 16 bits.)
unfoldable pub bound_of : ℕ → Stones → Stones → ℕ
bound_of size own other = cond (leb (count_of 16 other + 5) size) (count_of 16 own + 1) 0
