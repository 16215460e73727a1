-- What is refused has one of the 22 numbers, so that its name tells it. Assumes nothing.
use mathlib.Core.Path.{◌≡◌}
use mathlib.Core.Bool.{Bool, true, false, ◌||◌, cond}
use mathlib.Core.List.{List, [], ◌∷◌}
use mathlib.Core.Logic.{◌⊎◌, inl, inr}
use Prim.Native.Nat.{ℕ, ◌≤◌}
use native.Mathlib.Omega.{arith}
use lib.Dec.{T, eqb, eqb→eq}
use borrow.Author.Rules.{rules}
use Rattle.rules.specs.Refusals.{unless, first, code_refusal, colour_refusal, kind_refusal, view_refusal, distance_refusal}
use Rattle.rules.specs.Answers.{refusal_no, refusal_named}
use Rattle.rules.specs.Tools.{all_below}
use Rattle.rules.proofs.Logic.{all-elim, or_cases}
use Rattle.lent.specs.Lists.{list_refusal}
use Rattle.cells.specs.Cells.{cells_refusal, codes_refusal, moves_refusal, cells_refusal_at, cells_refusal_for, cells_stones_refusal}
use Rattle.cells.specs.Cells.{cells_neighbours_refusal}
use Rattle.grid.specs.Lines.{lines_refusal}
use Rattle.board.specs.Boards.{board_refusal, counts_refusal, refusal_at, refusal_for, rows_on_refusal}
use Rattle.board.specs.declared.board.Board.{Board}
use Rattle.lists.specs.Lists.{stones_refusal, rows_refusal}
use Rattle.referee.specs.Answers.{forbidden_refusal}
use Rattle.second.specs.Lists.{cells_rows_refusal, cells_rows_on_refusal, cells_forbidden_refusal}
use Rattle.stored.specs.Records.{record_refusal, back_refusal, tagged_refusal}
use Rattle.feed.specs.Feed.{add_refusal, take_refusal, held_refusal}
use Rattle.feed.specs.Compare.{missing_refusal}
use Rattle.feed.specs.declared.message.Message.{Message}
use Rattle.hint.specs.Refused.{limit_refusal, check_refusal, plan_refusal}
use Rattle.line.specs.Lines.{size_refusal, line_refusal, cell_refusal, line_refusal_for, line_rows_refusal, line_rows_on_refusal}
use Rattle.line.specs.declared.line.Line.{Line}
use Rattle.text.specs.Bytes.{slash, has, trim, text_refusal}
use Rattle.text.specs.Points.{place_refusal, item_refusal, items_refusal, points_refusal, point_text_refusal}
use Rattle.text.specs.Reading.{slash_refusal, stones_text_refusal, count_refusal, diagram_refusal, diagram_text_refusal, form_refusal, read_refusal}
use Rattle.sgf.specs.Games.{game_refusal, sgf_refusal}
use Rattle.diagrams.specs.Stones.{side_refusal, sides_refusal, convert_refusal}
use Rattle.renju.specs.Answers.{refusal_of}

-- the name of a number, and back
back : ℕ → Bool
back n = eqb (refusal_no (refusal_named n)) n

pub named_back : (n : ℕ) → (n ≡ 0 → ⊥) → n ≤ 22 → refusal_no (refusal_named n) ≡ n
unfolding back all_below
named_back n some h = go (or_cases (eqb n 0) (back n) (all-elim 23 (λ k. eqb k 0 || back k) tt n (omega arith)))
  where
    go : T (eqb n 0) ⊎ T (back n) → refusal_no (refusal_named n) ≡ n
    go (inl t) = absurd (some (eqb→eq n 0 t))
    go (inr t) = eqb→eq (refusal_no (refusal_named n)) n t

-- ---- how refusals are made

pub unless_named : (b : Bool) (n : ℕ) → n ≤ 22 → unless b n ≤ 22
unfolding unless
unless_named true n h = omega arith
unless_named false n h = h

pub first_named : (a b : ℕ) → a ≤ 22 → b ≤ 22 → first a b ≤ 22
unfolding first
first_named a b p q = go (eqb a 0)
  where
    go : (t : Bool) → cond t b a ≤ 22
    go true = q
    go false = p

-- ---- numbers and lists that are handed in

pub code_named : (n : ℕ) → code_refusal n ≤ 22
unfolding code_refusal
code_named n = search (rules, unless_named)

pub colour_named : (n : ℕ) → colour_refusal n ≤ 22
unfolding colour_refusal
colour_named n = search (rules, unless_named)

pub kind_named : (n : ℕ) → kind_refusal n ≤ 22
unfolding kind_refusal
kind_named n = search (rules, unless_named)

pub view_named : (n : ℕ) → view_refusal n ≤ 22
unfolding view_refusal
view_named n = search (rules, unless_named)

pub distance_named : (n : ℕ) → distance_refusal n ≤ 22
unfolding distance_refusal
distance_named n = search (rules, unless_named)

pub list_named : (told : ℕ) (out l : List ℕ) → told ≤ 22 → list_refusal told out l ≤ 22
unfolding list_refusal
list_named told out l h = search (rules, first_named, unless_named)

-- ---- cells

pub cells_named : (c : List ℕ) → cells_refusal c ≤ 22
unfolding cells_refusal
cells_named c = search (rules, unless_named)

pub codes_named : (c : List ℕ) → codes_refusal c ≤ 22
unfolding codes_refusal
codes_named c = search (rules, unless_named)

pub moves_named : (c : List ℕ) → moves_refusal c ≤ 22
unfolding moves_refusal
moves_named c = search (rules, first_named, unless_named, codes_named)

pub cells_at_named : (c : List ℕ) (p : ℕ) → cells_refusal_at c p ≤ 22
unfolding cells_refusal_at
cells_at_named c p = search (rules, first_named, cells_named, code_named)

pub cells_for_named : (c : List ℕ) (p colour : ℕ) → cells_refusal_for c p colour ≤ 22
unfolding cells_refusal_for
cells_for_named c p colour = search (rules, first_named, cells_at_named, colour_named)

pub cells_stones_named : (c : List ℕ) (colour : ℕ) → cells_stones_refusal c colour ≤ 22
unfolding cells_stones_refusal
cells_stones_named c colour = search (rules, first_named, cells_named, colour_named)

pub cells_neighbours_named : (c : List ℕ) (p n : ℕ) → cells_neighbours_refusal c p n ≤ 22
unfolding cells_neighbours_refusal
cells_neighbours_named c p n = search (rules, first_named, cells_at_named, distance_named)

pub cells_rows_named : (c : List ℕ) (colour kind : ℕ) → cells_rows_refusal c colour kind ≤ 22
unfolding cells_rows_refusal
cells_rows_named c colour kind = search (rules, first_named, cells_stones_named, kind_named)

pub cells_rows_on_named : (c : List ℕ) (p colour kind : ℕ) → cells_rows_on_refusal c p colour kind ≤ 22
unfolding cells_rows_on_refusal
cells_rows_on_named c p colour kind = search (rules, first_named, cells_for_named, kind_named)

pub cells_forbidden_named : (c : List ℕ) (p : ℕ) → cells_forbidden_refusal c p ≤ 22
unfolding cells_forbidden_refusal
cells_forbidden_named c p = search (rules, first_named, unless_named, cells_at_named)

-- ---- boards

pub board_named : (b : Board) → board_refusal b ≤ 22
unfolding board_refusal lines_refusal counts_refusal
board_named b = search (rules, first_named, unless_named)

pub at_named : (b : Board) (p : ℕ) → refusal_at b p ≤ 22
unfolding refusal_at
at_named b p = search (rules, first_named, board_named, code_named)

pub for_named : (b : Board) (p colour : ℕ) → refusal_for b p colour ≤ 22
unfolding refusal_for
for_named b p colour = search (rules, first_named, at_named, colour_named)

pub rows_on_named : (b : Board) (p colour kind : ℕ) → rows_on_refusal b p colour kind ≤ 22
unfolding rows_on_refusal
rows_on_named b p colour kind = search (rules, first_named, for_named, kind_named)

pub rows_named : (b : Board) (colour kind : ℕ) → rows_refusal b colour kind ≤ 22
unfolding rows_refusal stones_refusal
rows_named b colour kind = search (rules, first_named, board_named, colour_named, kind_named)

pub forbidden_named : (b : Board) (p : ℕ) → forbidden_refusal b p ≤ 22
unfolding forbidden_refusal
forbidden_named b p = search (rules, first_named, unless_named, at_named)

-- .. asked of cells
pub asked_named : (c : List ℕ) (question : Board → ℕ) → ((b : Board) → question b ≤ 22) → refusal_of c question ≤ 22
unfolding refusal_of
asked_named c question h = first_named (cells_refusal c) _ (cells_named c) (h _)

-- ---- lines

pub line_rows_named : (l : Line) (colour kind : ℕ) → line_rows_refusal l colour kind ≤ 22
unfolding line_rows_refusal line_refusal_for line_refusal size_refusal
line_rows_named l colour kind = search (rules, first_named, unless_named, colour_named, kind_named)

pub line_rows_on_named : (l : Line) (i colour kind : ℕ) → line_rows_on_refusal l i colour kind ≤ 22
unfolding line_rows_on_refusal cell_refusal
line_rows_on_named l i colour kind = search (rules, first_named, unless_named, line_rows_named)

-- ---- records, messages, hints

pub record_named : (s : List ℕ) → record_refusal s ≤ 22
unfolding record_refusal
record_named s = search (rules, first_named, unless_named, moves_named)

pub back_named : (s : List ℕ) → back_refusal s ≤ 22
unfolding back_refusal
back_named s = search (rules, first_named, unless_named, record_named)

pub tagged_named : (view : ℕ) (moves : List ℕ) → tagged_refusal view moves ≤ 22
unfolding tagged_refusal
tagged_named view moves = search (rules, first_named, moves_named, view_named)

pub held_named : (game room count : ℕ) (m : Message) → held_refusal game room count m ≤ 22
unfolding held_refusal take_refusal add_refusal
held_named game room count m = search (rules, first_named, unless_named, code_named)

pub missing_named : (a b : List ℕ) → missing_refusal a b ≤ 22
unfolding missing_refusal
missing_named a b = search (rules, unless_named)

pub check_named : (c : List ℕ) (colour : ℕ) (list : List ℕ) → check_refusal c colour list ≤ 22
unfolding check_refusal
check_named c colour list = search (rules, first_named, cells_named, codes_named, colour_named)

pub plan_named : (c : List ℕ) (colour limit : ℕ) (out : List ℕ) → plan_refusal c colour limit out ≤ 22
unfolding plan_refusal limit_refusal
plan_named c colour limit out = search (rules, first_named, unless_named, cells_named, colour_named)

-- ---- texts

pub text_named : (s : List ℕ) → text_refusal s ≤ 22
unfolding text_refusal
text_named s = search (rules, first_named, unless_named)

pub item_named : (s : List ℕ) → item_refusal s ≤ 22
unfolding item_refusal place_refusal
item_named s = search (rules, first_named, unless_named)

items_named : (ss : List (List ℕ)) → items_refusal ss ≤ 22
unfolding items_refusal
items_named [] = omega arith
items_named (s ∷ ss) = first_named (item_refusal s) (items_refusal ss) (item_named s) (items_named ss)

pub points_named : (s : List ℕ) → points_refusal s ≤ 22
unfolding points_refusal
points_named s = search (rules, items_named)

pub point_text_named : (s : List ℕ) → point_text_refusal s ≤ 22
unfolding point_text_refusal
point_text_named s = search (rules, first_named, text_named, item_named)

pub stones_text_named : (s : List ℕ) → stones_text_refusal s ≤ 22
unfolding stones_text_refusal slash_refusal
stones_text_named s = search (rules, first_named, unless_named, points_named)

pub diagram_text_named : (s : List ℕ) → diagram_text_refusal s ≤ 22
unfolding diagram_text_refusal diagram_refusal count_refusal
diagram_text_named s = search (rules, first_named, unless_named, text_named)

pub read_named : (s : List ℕ) → read_refusal s ≤ 22
unfolding read_refusal form_refusal
read_named s = first_named (text_refusal s) (form_refusal s) (text_named s) (go (has slash s))
  where
    go : (t : Bool) → cond t (stones_text_refusal (trim s)) (points_refusal (trim s)) ≤ 22
    go true = stones_text_named (trim s)
    go false = points_named (trim s)

pub sgf_named : (s : List ℕ) → sgf_refusal s ≤ 22
unfolding sgf_refusal game_refusal
sgf_named s = search (rules, first_named, unless_named, text_named)

pub convert_named : (s : List ℕ) → convert_refusal s ≤ 22
unfolding convert_refusal sides_refusal side_refusal
convert_named s = search (rules, first_named, unless_named, diagram_text_named)
