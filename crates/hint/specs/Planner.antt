-- Request 11: the planner. The quoted sentences are document 02's.
use Rattle.std.specs.Prelude.{cond, List, [], ◌∷◌, ◌⊎◌, ◌≡◌, ℕ, zero, suc, ◌<◌}
use Rattle.rules.specs.declared.Player.{Player}
use Rattle.rules.specs.Grid.{put}
use Rattle.hint.specs.Hint.{goes_on, may_attack, ends_at, eyes_from, after_both}

-- a list, or where it is empty another
unfoldable pub or_else : List ℕ → List ℕ → List ℕ
or_else [] m = m
or_else (x ∷ l) m = x ∷ l

-- the first list that is not empty, of f 0, f 1, .. f (n - 1)
unfoldable pub first_line : ℕ → (ℕ → List ℕ) → List ℕ
first_line zero f = []
first_line (suc n) f = or_else (first_line n f) (f n)

-- two points before a list that is not empty
unfoldable pub behind : ℕ → ℕ → List ℕ → List ℕ
behind p e [] = []
behind p e (x ∷ l) = p ∷ e ∷ x ∷ l

-- the line from an attack at p on, by its eyes: where there is one only, its reply and what `next` finds after it
unfoldable pub via_eye : (ℕ → List ℕ) → ℕ → List ℕ → List ℕ
via_eye next p [] = []
via_eye next p (e ∷ []) = behind p e (next e)
via_eye next p (e ∷ f ∷ more) = []

-- the first line that begins with an attack at p
unfoldable pub line_from : Player → (List ℕ → List ℕ) → List ℕ → ℕ → List ℕ
line_from side next cells p =
    cond (may_attack side cells p)
    (cond (ends_at side cells p) (p ∷ []) (via_eye (λ e. next (after_both side cells p e)) p (eyes_from side (put side cells p) p)))
    []

-- "its search goes one attack deeper with one fewer left"
unfoldable pub plan_from : Player → ℕ → List ℕ → List ℕ
plan_from side zero cells = []
plan_from side (suc n) cells = first_line 225 (line_from side (plan_from side n) cells)

-- the plan, at most n attacks; no points where there is no line
unfoldable pub plan_of : Player → ℕ → List ℕ → List ℕ
plan_of side n cells = cond (goes_on cells) (plan_from side n cells) []

-- l is before m, or is m, by comparing codes from the front
unfoldable pub NotAfter : List ℕ → List ℕ → Type 0
NotAfter [] m = Unit {0}
NotAfter (x ∷ l) [] = ⊥
NotAfter (x ∷ l) (y ∷ m) = (x < y) ⊎ ((x ≡ y) × NotAfter l m)
