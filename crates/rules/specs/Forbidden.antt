-- Section 5, with document 02's No. 6: the referee. The quoted sentences are document 01's where no other is named.
use Rattle.std.specs.Prelude.{Bool, not, ◌&&◌, ◌||◌, cond, List, [], ◌∷◌, ℕ, zero, suc, ◌+◌, leb, eqb, get_or}
use Rattle.rules.specs.Numbers.{verdict_no, is_none}
use Rattle.rules.specs.Tools.{any_below, gather, only}
use Rattle.rules.specs.Line.{Stones}
use Rattle.rules.specs.Point.{line_no, point_at}
use Rattle.rules.specs.Grid.{is_empty, put, empties, stone_at, Starts, rows_through, eye_on}
use Rattle.rules.specs.declared.Player.TheVariants.{Black}
use Rattle.rules.specs.declared.RowKind.{RowKind}
use Rattle.rules.specs.declared.RowKind.TheVariants.{Two, Three, Sword, Four, Overlining}
use Rattle.rules.specs.declared.Verdict.{Verdict}
use Rattle.rules.specs.declared.Verdict.TheVariants.{None, DoubleThree, DoubleFour, Overline}

-- ---- one row, and more than one

-- some start on the line
abbrev pub some_start : (ℕ → Bool) → Bool
some_start s = any_below 16 s

-- some start on some line
unfoldable pub some_row : Starts → Bool
some_row s = any_below 4 (λ d. some_start (s d))

-- "starts on two lines"
unfoldable pub on_two_lines : Starts → Bool
on_two_lines s = any_below 4 (λ d. some_start (s d) && any_below 4 (λ e. not (eqb d e) && some_start (s e)))

-- "on one line a set not contained in {j, j+1}": two starts, of those below w, that are two or more apart (proofs/Apart.antt, apart-says:
-- the same thing)
unfoldable pub apart : ℕ → (ℕ → Bool) → Bool
apart w s = any_below w (λ j. s j && any_below w (λ k. leb (j + 2) k && s k))

-- ""More than one" means starts on two lines, or on one line a set not contained in {j, j+1}."
unfoldable pub more_than_one : Starts → Bool
more_than_one s = on_two_lines s || any_below 4 (λ d. apart 16 (s d))

-- ---- the three kinds; `ask` is the strict verdict that a nested question is answered by

-- a question about a point of a board, and the type of its answers
abbrev pub Ask : Type 0 → Type 0
Ask A = List ℕ → ℕ → A

-- "on the board with Black at p"
abbrev pub with_black : List ℕ → ℕ → List ℕ
with_black cells p = put Black cells p

-- "a black Four goes through p (p completes a five)"
unfoldable pub completes_five : List ℕ → ℕ → Bool
completes_five cells p = some_row (rows_through Black Four cells p)

-- Is nothing against the stone that makes a Three a straight four? "its eye completes no black five on that board and the strict verdict
-- there is none" (document 02, No. 6). At a point that completes a five the strict verdict is none by itself, so the first test is
-- what says no.
unfoldable pub good_eye : Ask Verdict → List ℕ → ℕ → Bool
good_eye ask cells e = not (completes_five cells e) && is_none (ask cells e)

-- "a Three is real when its eye completes no black five on that board and the strict verdict there is none, at every level of nesting"
-- (document 02, No. 6; document 01 asked for the verdict alone). The Three stands at start j of the line through p; it has one eye
-- (proofs/Eye.antt).
unfoldable pub is_real : Ask Verdict → List ℕ → ℕ → Starts
is_real ask cells p d j =
    any_below 16 (λ e. eye_on Black Three cells d (line_no d p) j e && good_eye ask cells (point_at d (line_no d p) e))

-- the first of the cells j to j + 2 that has no stone, else j + 3: of a Three at start j this is its one eye (proofs/Gap.antt)
unfoldable pub gap_from : Stones → ℕ → ℕ
gap_from own j = cond (own j) (cond (own (j + 1)) (cond (own (j + 2)) (j + 3) (j + 2)) (j + 1)) j

-- the point there, of the line through p in direction d
unfoldable pub eye_of : List ℕ → ℕ → ℕ → ℕ → ℕ
eye_of cells p d j = point_at d (line_no d p) (gap_from (stone_at Black cells d (line_no d p)) j)

-- the real Threes through p
unfoldable pub real_threes : Ask Verdict → List ℕ → ℕ → Starts
real_threes ask cells p d j = rows_through Black Three cells p d j && is_real ask cells p d j

-- Black's rows of each kind through p
abbrev pub black_rows : List ℕ → ℕ → RowKind → Starts
black_rows cells p kind = rows_through Black kind cells p

-- "Overline: some line has an Overlining through p."
unfoldable pub is_overline : List ℕ → ℕ → Bool
is_overline cells p = some_row (rows_through Black Overlining cells p)

-- "DoubleFour: more than one Sword through p."
unfoldable pub is_double_four : List ℕ → ℕ → Bool
is_double_four cells p = more_than_one (rows_through Black Sword cells p)

-- "more than one real Three through p", of the board that has the stone
abbrev pub real_double : Ask Verdict → List ℕ → ℕ → Bool
real_double ask cells p = more_than_one (real_threes ask cells p)

-- "more than one Two through p"
abbrev pub more_twos : List ℕ → ℕ → Bool
more_twos cells p = more_than_one (rows_through Black Two cells p)

-- "DoubleThree: more than one Two through p, and on the board with Black at p more than one real Three through p."
unfoldable pub is_double_three : Ask Verdict → List ℕ → ℕ → Bool
is_double_three ask cells p = more_twos cells p && real_double ask (with_black cells p) p

-- Some kind may apply at p, by the tests that need no nested question. Where none of them passes the verdict is none (proofs/Verdicts.antt,
-- quiet-none), so that a point is asked about only where one does.
unfoldable pub may_forbid : List ℕ → ℕ → Bool
may_forbid cells p = is_overline cells p || is_double_four cells p || more_twos cells p

-- ---- the verdicts

-- "first that applies": Overline, DoubleFour, DoubleThree. "Nothing is asked after the first kind that applies."
abbrev pub first_kind : Bool → Bool → Bool → Verdict
first_kind o f t = cond o Overline (cond f DoubleFour (cond t DoubleThree None))

-- "The plain verdict at an empty p, first that applies"
unfoldable pub plain_with : Ask Verdict → Ask Verdict
plain_with ask cells p = first_kind (is_overline cells p) (is_double_four cells p) (is_double_three ask cells p)

-- "The strict verdict is none at an occupied point or where a black Four goes through p (p completes a five); otherwise it is the plain
-- one."
unfoldable pub strict_with : Ask Verdict → Ask Verdict
strict_with ask cells p = cond (is_empty (get_or cells p 0)) (cond (completes_five cells p) None (plain_with ask cells p)) None

-- A question that asks itself, whatever its answers are: `step` answers it by the answers to the next questions. At most n steps, one
-- inside the other; past the last the answer is `rest`.
unfoldable pub nested_n : {A : Type 0} → A → (Ask A → Ask A) → ℕ → Ask A
nested_n rest step zero cells p = rest
nested_n rest step (suc n) cells p = step (nested_n rest step n) cells p

-- Where "each turn has one empty point fewer", as many steps as there are empty points are enough (proofs/Fuel.antt: more change nothing).
unfoldable pub nested_of : {A : Type 0} → A → (Ask A → Ask A) → Ask A
nested_of rest step cells p = nested_n rest step (empties cells) cells p

-- "The strict question asks the plain one, which asks the strict one; each turn has one empty point fewer."
unfoldable pub strict_of : Ask Verdict
strict_of cells p = nested_of None strict_with cells p

-- .. with at most n turns
unfoldable pub strict_n : ℕ → Ask Verdict
strict_n n cells p = nested_n None strict_with n cells p

unfoldable pub plain_of : Ask Verdict
plain_of cells p = plain_with strict_of cells p

-- "DoubleThree: more than one Two through p, and on the board with Black at p more than one real Three through p", asked alone; no at an
-- occupied point
unfoldable pub double_three_at : List ℕ → ℕ → Bool
double_three_at cells p = is_empty (get_or cells p 0) && is_double_three strict_of cells p

-- ---- the list

-- a verdict in the list: "kind byte .., then code", and nothing for none
abbrev pub entry : Verdict → ℕ → List ℕ
entry v p = only (not (is_none v)) (verdict_no v ∷ p ∷ [])

-- "The forbidden list holds each empty point whose strict verdict is a kind, by ascending code". (An occupied point's strict verdict is
-- none.) Each such point once, ascending: proofs/Listed.antt, list-order and list-names.
unfoldable pub forbidden_list : List ℕ → List ℕ
forbidden_list cells = gather 225 (λ p. entry (strict_of cells p) p)
