-- The place of a byte in a lent slice.
use Rattle.std.specs.Prelude.{Bool, cond, List, [], ◌∷◌, ℕ, suc, eqb}

-- the place of the first byte that passes the test, or the length
unfoldable pub first_at : (ℕ → Bool) → List ℕ → ℕ
first_at f [] = 0
first_at f (b ∷ s) = cond (f b) 0 (suc (first_at f s))

-- the place of the first d, or the length
abbrev pub find_at : ℕ → List ℕ → ℕ
find_at d s = first_at (λ b. eqb b d) s
