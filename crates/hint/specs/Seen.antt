-- What the code sees of an attack. No public statement cites what is said here.
use Rattle.std.specs.Prelude.{◌≡◌, Bool, true, false, not, ◌&&◌, ◌||◌, cond, List, [], ◌∷◌, Option, Some, None, ℕ, ◌+◌, ◌≤◌, ◌<◌, T, eqb, length, get_or}
use Rattle.rules.specs.Numbers.{is_black, is_none, opponent_of}
use Rattle.rules.specs.Tools.{any_below}
use Rattle.rules.specs.Bit.{bit, mask_of}
use Rattle.rules.specs.Line.{Stones, holds, scores, among, eyes_of}
use Rattle.rules.specs.Point.{x_of, y_of, line_no, cell_no, line_count, line_size, point_at, key_dir, key_no, key_point}
use Rattle.rules.specs.Grid.{is_empty, put, stone_at, row_on, rows_through}
use Rattle.rules.specs.Forbidden.{some_row, strict_of}
use Rattle.rules.specs.declared.Player.{Player}
use Rattle.rules.specs.declared.RowKind.{RowKind}
use Rattle.rules.specs.declared.RowKind.TheVariants.{Sword}
use Rattle.hint.specs.Hint.{completes, may_attack, ends_at, forces, after_both, reaches_end}
use Rattle.hint.specs.declared.attack.Attack.{Attack}
use Rattle.hint.specs.declared.attack.Attack.TheVariants as attack

-- ---- eyes

-- the first of five cells from j on that has no stone, or the last: of a Four at start j this is its one eye
unfoldable pub gap_of : Stones → ℕ → ℕ
gap_of own j = cond (own j) (cond (own (j + 1)) (cond (own (j + 2)) (cond (own (j + 3)) (j + 4) (j + 3)) (j + 2)) (j + 1)) j

-- the eye that is left of a Sword through p, at start j of the line in direction d, by the side's stone at p
unfoldable pub sword_eye : Player → List ℕ → ℕ → ℕ → ℕ → ℕ
sword_eye side cells p d j = point_at d (line_no d p) (gap_of (stone_at side (put side cells p) d (line_no d p)) j)

-- two or more
unfoldable pub is_several : List ℕ → Bool
is_several [] = false
is_several (e ∷ []) = false
is_several (e ∷ f ∷ more) = true

-- eyes as the code tells them: the only one, or none where there are several
unfoldable pub OnlyEye : List ℕ → Option ℕ → Type 0
OnlyEye l (Some e) = l ≡ e ∷ []
OnlyEye l None = is_several l ≡ true

-- ---- an attack

-- "Before each attack the defender may have no point that completes a five."
abbrev pub Quiet : Player → List ℕ → Type 0
Quiet side cells = any_below 225 (completes (opponent_of side) cells) ≡ false

-- an attack at p that forces a reply at e, after which the defender can complete nothing
pub record Forced (side : Player) (cells : List ℕ) (p e : ℕ) : Type 0 where
  pub may : T (may_attack side cells p)
  pub forced : T (forces side cells p e)
  pub quiet : Quiet side (after_both side cells p e)

-- what an attack at p does: no line begins with it; it ends the line; or it forces a reply after which the defender can complete nothing
unfoldable pub AttackIs : Player → List ℕ → ℕ → Attack → Type 0
AttackIs side cells p attack.No = (rest : List ℕ) → reaches_end side cells (p ∷ rest) ≡ false
AttackIs side cells p attack.Ends = T (may_attack side cells p) × T (ends_at side cells p)
AttackIs side cells p (attack.Forces e) = Forced side cells p e

-- what a reply at the only eye e does, on the board with the attack: it is forbidden; it makes a four of the defender's; it is forced
unfoldable pub AnswerIs : Player → List ℕ → ℕ → Attack → Type 0
AnswerIs defender cells e attack.No =
    ((is_black defender && not (is_none (strict_of cells e))) ≡ false) × (some_row (rows_through defender Sword cells e) ≡ true)
AnswerIs defender cells e attack.Ends = (is_black defender && not (is_none (strict_of cells e))) ≡ true
AnswerIs defender cells e (attack.Forces f) =
    (f ≡ e) × ((is_black defender && not (is_none (strict_of cells e))) ≡ false) × (some_row (rows_through defender Sword cells e) ≡ false)

-- ---- the board, line by line

-- the player has a row of the kind on the line of key k
unfoldable pub row_on_key : Player → RowKind → List ℕ → ℕ → Bool
row_on_key r kind cells k = any_below 16 (row_on r kind cells (key_dir k) (key_no k))

-- ---- the points to try

-- bit y of mask x is the point (x, y)
unfoldable pub marked : List ℕ → ℕ → Bool
marked m p = bit (get_or m (x_of p) 0) (y_of p)

-- what is marked stays so
pub record Kept (m n : List ℕ) : Type 0 where
  pub long : length n ≡ length m
  pub still : (p : ℕ) → p < 225 → T (marked m p) → T (marked n p)

-- p is marked, if it is a point and the test says so
abbrev pub MarkedIf : Bool → ℕ → List ℕ → Type 0
MarkedIf on p m = T on → p < 225 → T (marked m p)

-- of the first n cells of the line of key k those that pass are marked
abbrev pub MarkedCells : ℕ → ℕ → (ℕ → Bool) → List ℕ → Type 0
MarkedCells k n at m = (j : ℕ) → j < n → MarkedIf (at j) (key_point k j) m

-- a window of the side's on line i scores 3 or 4: a Sword or a Four starts at j
pub record Threat (r : Player) (cells : List ℕ) (d i j : ℕ) : Type 0 where
  pub n : ℕ
  pub is : T (eqb n 3 || eqb n 4)
  pub scored : T (scores (is_black r) (line_size d i) (stone_at r cells d i) (stone_at (opponent_of r) cells d i) n j)

-- every empty point of line i with a Sword or a Four through it on that line is marked; on each line through p; on each line of the board
abbrev pub MarkedLine : Player → List ℕ → ℕ → ℕ → List ℕ → Type 0
MarkedLine r cells d i m =
    (p j : ℕ) → p < 225 → line_no d p ≡ i → T (is_empty (get_or cells p 0)) → T (among 5 j (cell_no d p)) → Threat r cells d i j → T (marked m p)

abbrev pub MarkedThrough : Player → List ℕ → ℕ → List ℕ → Type 0
MarkedThrough r cells p m = (d : ℕ) → d < 4 → MarkedLine r cells d (line_no d p) m

abbrev pub Covers : Player → List ℕ → List ℕ → Type 0
Covers r cells m = (d i : ℕ) → d < 4 → i < line_count d → MarkedLine r cells d i m

-- a line's empty cells in its free windows of three own stones or four
unfoldable pub hot_cell : ℕ → Stones → Stones → ℕ → Bool
hot_cell size own other i =
    eyes_of size own other (bit (mask_of 16 (λ j. holds size own other 3 j || holds size own other 4 j))) (bit 31) i

-- from a code up to r, which is at most 225, no marked point is empty: none to try is passed over
pub record NextTry (m cells : List ℕ) (from r : ℕ) : Type 0 where
  pub le : r ≤ 225
  pub ge : from ≤ 225 → from ≤ r
  pub none : (p : ℕ) → from ≤ p → p < r → T (is_empty (get_or cells p 0)) → marked m p ≡ false
