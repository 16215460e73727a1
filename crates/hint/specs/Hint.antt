-- Request 11: hints, a win by fours. The game, and the check that accepts only a sure win. The quoted sentences are document 02's.
use Rattle.std.specs.Prelude.{Bool, true, false, not, ◌&&◌, ◌||◌, List, [], ◌∷◌, ◌⊎◌, ℕ, zero, suc, T, eqb, ltb, get_or}
use Rattle.rules.specs.Numbers.{is_none, is_white, opponent_of}
use Rattle.rules.specs.Tools.{any_below, gather, only}
use Rattle.rules.specs.Point.{line_no, cell_no, line_count}
use Rattle.rules.specs.Grid.{is_empty, put, row_on, four_eye}
use Rattle.rules.specs.Forbidden.{strict_of}
use Rattle.rules.specs.Fives.{makes_five}
use Rattle.rules.specs.declared.Player.{Player}
use Rattle.rules.specs.declared.Player.TheVariants.{Black, White}
use Rattle.rules.specs.declared.RowKind.TheVariants.{Five}

-- ---- the game

-- A five of the side's stands on the board. "Black's fives and White's are those of No. 3": "Black's five is exactly five, White's five or
-- more". A row of kind Five is that: with a black stone beside it Black's window is dead, White's is not.
unfoldable pub has_five : Player → List ℕ → Bool
has_five side cells = any_below 4 (λ d. any_below (line_count d) (λ i. any_below 16 (λ j. row_on side Five cells d i j)))

-- the game goes on: "The board given may hold no five of either side"
unfoldable pub goes_on : List ℕ → Bool
goes_on cells = not (has_five Black cells) && not (has_five White cells)

-- the side may play at p: "The .. point is empty and, for Black, its strict verdict is none."
unfoldable pub legal : Player → List ℕ → ℕ → Bool
legal side cells p = ltb p 225 && is_empty (get_or cells p 0) && (is_white side || is_none (strict_of cells p))

-- What the defender may answer, the attacker to go on: each legal move; a defender without a legal move passes.
unfoldable pub Answered : Player → (List ℕ → Type 0) → List ℕ → Type 0
Answered side next cells =
    ((q : ℕ) → T (legal (opponent_of side) cells q) → next (put (opponent_of side) cells q))
    × (((q : ℕ) → T (legal (opponent_of side) cells q) → ⊥) → next cells)

-- The attacker, to move, forces a five within k of its own moves: the game goes on (so the defender has made no five), and some legal move
-- makes a five, or wins within k − 1 more against every answer.
unfoldable pub Wins : Player → ℕ → List ℕ → Type 0
Wins side zero cells = ⊥
Wins side (suc k) cells =
    T (goes_on cells)
    × (p : ℕ) × T (legal side cells p)
    × (T (has_five side (put side cells p)) ⊎ Answered side (Wins side k) (put side cells p))

-- ---- the check

-- a stone of the side's at an empty p makes a five: p completes it
unfoldable pub completes : Player → List ℕ → ℕ → Bool
completes side cells p = is_empty (get_or cells p 0) && makes_five side cells p

-- "Before each attack the defender may have no point that completes a five. The attacker's point is empty and, for Black, its strict
-- verdict is none."
unfoldable pub may_attack : Player → List ℕ → ℕ → Bool
may_attack side cells p = not (any_below 225 (completes (opponent_of side) cells)) && legal side cells p

-- e is an eye of a Four of the side's through p
unfoldable pub is_four_eye : Player → List ℕ → ℕ → ℕ → Bool
is_four_eye side cells p e = any_below 4 (λ d. eqb (line_no d e) (line_no d p) && four_eye side cells p d (cell_no d e))

-- these eyes, each point once, ascending; where there is one, a stone at p has made a four
unfoldable pub eyes_from : Player → List ℕ → ℕ → List ℕ
eyes_from side cells p = gather 225 (λ e. only (is_four_eye side cells p e) (e ∷ []))

-- "with two or more distinct eyes the line ends"; "For a Black defender whose only eye is forbidden the line also ends."
unfoldable pub ends_by : Player → List ℕ → List ℕ → Bool
ends_by side cells [] = false
ends_by side cells (e ∷ []) = is_white side && not (is_none (strict_of cells e))
ends_by side cells (e ∷ f ∷ more) = true

-- "If it completes a five the line ends there. Otherwise it must make a four": the attack at p ends the line
unfoldable pub ends_at : Player → List ℕ → ℕ → Bool
ends_at side cells p = completes side cells p || ends_by side (put side cells p) (eyes_from side (put side cells p) p)

-- "with one eye the next point in the list must be that eye": e is the only one
unfoldable pub only_eye : List ℕ → ℕ → Bool
only_eye [] e = false
only_eye (f ∷ []) e = eqb f e
only_eye (f ∷ g ∷ more) e = false

-- the attack at p ends nothing and leaves the defender just e
unfoldable pub forces : Player → List ℕ → ℕ → ℕ → Bool
forces side cells p e = not (ends_at side cells p) && only_eye (eyes_from side (put side cells p) p) e

-- the board after an attack and its reply: "and the defender plays it"
abbrev pub after_both : Player → List ℕ → ℕ → ℕ → List ℕ
after_both side cells p e = put (opponent_of side) (put side cells p) e

-- "A list must reach the end and nothing may follow it."
unfoldable pub reaches_end : Player → List ℕ → List ℕ → Bool
reaches_end side cells [] = false
reaches_end side cells (p ∷ []) = may_attack side cells p && ends_at side cells p
reaches_end side cells (p ∷ e ∷ rest) = may_attack side cells p && forces side cells p e && reaches_end side (after_both side cells p e) rest

-- "The board given may hold no five of either side, else no line is acceptable."
unfoldable pub acceptable : Player → List ℕ → List ℕ → Bool
acceptable side cells list = goes_on cells && reaches_end side cells list

-- the attacks of a list: its first point, its third ..
unfoldable pub attacks : List ℕ → ℕ
attacks [] = 0
attacks (p ∷ []) = 1
attacks (p ∷ e ∷ rest) = suc (attacks rest)
