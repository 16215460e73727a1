-- Section 6: the eight views, and one after another. The quoted sentences are document 01's, and document 02's where it is named.
use Rattle.std.specs.Prelude.{Bool, cond, List, [], ◌∷◌, ℕ, ◌-◌, eqb, ltb, get_or}
use Rattle.rules.specs.Tools.{all_below, tab}
use Rattle.rules.specs.Point.{x_of, y_of, code_of}
use Rattle.rules.specs.Grid.{first_of}

-- "0: (x, y). 1: (y, 14−x). 2: (14−x, 14−y). 3: (14−y, x). 4: (14−x, y). 5: (x, 14−y). 6: (y, x). 7: (14−y, 14−x)."
abbrev pub views : ℕ → ℕ → List (ℕ × ℕ)
views x y =
    (x, y)
    ∷ (y, 14 - x)
    ∷ (14 - x, 14 - y)
    ∷ (14 - y, x)
    ∷ (14 - x, y)
    ∷ (x, 14 - y)
    ∷ (y, x)
    ∷ (14 - y, 14 - x)
    ∷ []

-- row v of the table, and row 7 for every other number; refusal 12 comes first wherever a number is handed in
abbrev pub viewed : ℕ → ℕ → ℕ → ℕ × ℕ
viewed v x y = get_or (views x y) v (14 - y, 14 - x)

-- "Each view sends the point (x, y) to the point named here."
unfoldable pub turn : ℕ → ℕ → ℕ
turn v p = let q = viewed v (x_of p) (y_of p) in code_of q.0 q.1

-- the view that sends it back, view by view: 1 and 3 undo one another, every other number itself
unfoldable pub undo : ℕ → ℕ
undo v = get_or (0 ∷ 3 ∷ 2 ∷ 1 ∷ 4 ∷ 5 ∷ 6 ∷ 7 ∷ []) v v

-- "The turned board holds at each turned point what the board holds at the point, and nothing else": at q what the board holds at the
-- point that the view sends to q
unfoldable pub turn_cells : ℕ → List ℕ → List ℕ
turn_cells v cells = tab 225 (λ q. get_or cells (turn (undo v) q) 0)

-- a pair, kind and code, put into a list of pairs in code order
unfoldable pub insert : ℕ → ℕ → List ℕ → List ℕ
insert k p [] = k ∷ p ∷ []
insert k p (k' ∷ []) = k ∷ p ∷ []
insert k p (k' ∷ p' ∷ rest) = cond (ltb p p') (k ∷ p ∷ k' ∷ p' ∷ rest) (k' ∷ p' ∷ insert k p rest)

-- "the turned list names the turned points with their kinds, put in code order"
unfoldable pub turn_list : ℕ → List ℕ → List ℕ
turn_list v [] = []
turn_list v (k ∷ []) = []
turn_list v (k ∷ p ∷ rest) = insert k (turn v p) (turn_list v rest)

-- ---- one view after another (document 02, No. 9)

-- "the view that equals one view followed by a second": whether view u sends every point where w sends the point to which v sent it
unfoldable pub is_then : ℕ → ℕ → ℕ → Bool
is_then v w u = all_below 225 (λ p. eqb (turn u p) (turn w (turn v p)))

-- that view, looked for among the eight (proofs/Composed.antt: one is found, `then-turn`, and there is no other, `then-only`)
unfoldable pub then_view : ℕ → ℕ → ℕ
then_view v w = first_of (is_then v w) 8 0

-- the same as a table (`then-table`): a row for each first view, in it a number for each second. "4 then 1 is 6, 1 then 4 is 7"
abbrev pub then_rows : List (List ℕ)
then_rows =
    (0 ∷ 1 ∷ 2 ∷ 3 ∷ 4 ∷ 5 ∷ 6 ∷ 7 ∷ [])
    ∷ (1 ∷ 2 ∷ 3 ∷ 0 ∷ 7 ∷ 6 ∷ 4 ∷ 5 ∷ [])
    ∷ (2 ∷ 3 ∷ 0 ∷ 1 ∷ 5 ∷ 4 ∷ 7 ∷ 6 ∷ [])
    ∷ (3 ∷ 0 ∷ 1 ∷ 2 ∷ 6 ∷ 7 ∷ 5 ∷ 4 ∷ [])
    ∷ (4 ∷ 6 ∷ 5 ∷ 7 ∷ 0 ∷ 2 ∷ 1 ∷ 3 ∷ [])
    ∷ (5 ∷ 7 ∷ 4 ∷ 6 ∷ 2 ∷ 0 ∷ 3 ∷ 1 ∷ [])
    ∷ (6 ∷ 5 ∷ 7 ∷ 4 ∷ 3 ∷ 1 ∷ 0 ∷ 2 ∷ [])
    ∷ (7 ∷ 4 ∷ 6 ∷ 5 ∷ 1 ∷ 3 ∷ 2 ∷ 0 ∷ [])
    ∷ []

-- row v of it, and row 7 for every other number
unfoldable pub then_row : ℕ → List ℕ
then_row v = get_or then_rows v (7 ∷ 4 ∷ 6 ∷ 5 ∷ 1 ∷ 3 ∷ 2 ∷ 0 ∷ [])
