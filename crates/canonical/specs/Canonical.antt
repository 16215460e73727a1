-- The canonical form of a board: "the least of the eight turned boards by its cell bytes", and "the view (the smallest that gives it)".
use Rattle.std.specs.Prelude.{Bool, true, false, not, cond, List, [], ◌∷◌, ℕ, eqb, ltb}
use Rattle.rules.specs.Tools.{all_below}
use Rattle.rules.specs.Grid.{first_of}
use Rattle.rules.specs.Views.{turn_cells}

-- whether one list of bytes is less than another: at the first place where they differ its byte is, or it ends there
unfoldable pub less : List ℕ → List ℕ → Bool
less [] [] = false
less [] (b ∷ s) = true
less (a ∷ r) [] = false
less (a ∷ r) (b ∷ s) = cond (eqb a b) (less r s) (ltb a b)

-- whether no turned board is less than the one of view v
unfoldable pub is_least : List ℕ → ℕ → Bool
is_least cells v = all_below 8 (λ w. not (less (turn_cells w cells) (turn_cells v cells)))

-- the first such view of the eight (proofs/Eight.antt: there is one, `canonical-lt`)
unfoldable pub canonical_view : List ℕ → ℕ
canonical_view cells = first_of (is_least cells) 8 0

-- and its board
unfoldable pub canonical_cells : List ℕ → List ℕ
canonical_cells cells = turn_cells (canonical_view cells) cells
