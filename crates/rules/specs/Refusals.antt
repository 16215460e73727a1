-- Section 2: the numbers given back, 0 for none, what each means, and their order. Every crate's refusals cite them from here. The quoted
-- sentences are document 01's, and from 14 on document 02's.
use Rattle.std.specs.Prelude.{Bool, cond, ℕ, eqb, ltb, leb}
use Rattle.rules.specs.Numbers.{is_colour}
use Rattle.rules.specs.Point.{line_count}

-- ---- the numbers

-- "1 text over 4,096 bytes"
abbrev pub text_long : ℕ
text_long = 1

-- "2 a text byte of 128 or more"
abbrev pub text_high : ℕ
text_high = 2

-- "3 "Failed to parse x part.""
abbrev pub no_column : ℕ
no_column = 3

-- "4 "Failed to parse y part.""
abbrev pub no_row : ℕ
no_row = 4

-- "5 "Wrong length.": a diagram line over 15 cells"
abbrev pub over_length : ℕ
over_length = 5

-- "6 "Wrong num of lines""
abbrev pub wrong_count : ℕ
wrong_count = 6

-- "7 "Wrong line size""
abbrev pub wrong_size : ℕ
wrong_size = 7

-- "8 point code 225 to 255, or a coordinate over 14"
abbrev pub no_point : ℕ
no_point = 8

-- "9 unsound board, line or segment; cell bytes of other length or with a byte over 2"
abbrev pub unsound : ℕ
unsound = 9

-- "10 line asked alone with size outside 5 to 15; a cell not on its line; a segment asked at a start over size − 5; a line number or key
-- that does not exist"
abbrev pub no_place : ℕ
no_place = 10

-- "11 the plain verdict (`forbidden`) at an occupied point"
abbrev pub occupied : ℕ
occupied = 11

-- "12 view over 7; neighbour distance over 14; as a number, a colour other than 1 Black and 2 White, a direction over 3 (section 4's
-- order), a row kind over 7 (order of `row.rs`)"
abbrev pub no_number : ℕ
no_number = 12

-- "13 lent output shorter than the whole answer needs"
abbrev pub no_room : ℕ
no_room = 13

-- "14 for more than 225 moves"
abbrev pub many_moves : ℕ
many_moves = 14

-- "15 for a malformed record, a view over 7 or a length that disagrees with the bytes included"
abbrev pub malformed : ℕ
malformed = 15

-- "16 for a view other than 0 on the way back"
abbrev pub turned_view : ℕ
turned_view = 16

-- "17 for a foreign game"
abbrev pub foreign_game : ℕ
foreign_game = 17

-- "18 for a number that is not next"
abbrev pub not_next : ℕ
not_next = 18

-- "19 for lists where neither begins the other"
abbrev pub apart_lists : ℕ
apart_lists = 19

-- "20 for anything outside the subset"
abbrev pub outside_subset : ℕ
outside_subset = 20

-- "21 for a limit outside 1 to 6"
abbrev pub no_limit : ℕ
no_limit = 21

-- "22 for a side without stones"
abbrev pub one_sided : ℕ
one_sided = 22

-- ---- the order

-- refusal n, unless the test passes
unfoldable pub unless : Bool → ℕ → ℕ
unless b n = cond b 0 n

-- Of two refusals the first that is given. "Order: text 1, 2, then the first of 3 to 7 that the reading meets; then 10 for size, 9, 8, 12,
-- 10 for place, 11, 13." Where 14 and the numbers after it come, document 02 says with each request. A statement joins the refusals that a
-- function gives by `first`, in this order.
unfoldable pub first : ℕ → ℕ → ℕ
first a b = cond (eqb a 0) b a

-- ---- of a number handed in

unfoldable pub code_refusal : ℕ → ℕ
code_refusal p = unless (ltb p 225) no_point

unfoldable pub colour_refusal : ℕ → ℕ
colour_refusal c = unless (is_colour c) no_number

unfoldable pub kind_refusal : ℕ → ℕ
kind_refusal k = unless (leb k 7) no_number

unfoldable pub direction_refusal : ℕ → ℕ
direction_refusal d = unless (ltb d 4) no_number

unfoldable pub view_refusal : ℕ → ℕ
view_refusal v = unless (ltb v 8) no_number

unfoldable pub distance_refusal : ℕ → ℕ
distance_refusal n = unless (leb n 14) no_number

unfoldable pub key_refusal : ℕ → ℕ
key_refusal k = unless (ltb k 72) no_place

-- line i in direction d: the direction first
unfoldable pub line_no_refusal : ℕ → ℕ → ℕ
line_no_refusal d i = first (direction_refusal d) (unless (ltb i (line_count d)) no_place)
