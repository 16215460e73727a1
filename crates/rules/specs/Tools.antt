-- Tests over a range of numbers, and lists made of what each number gives.
use Rattle.std.specs.Prelude.{Bool, true, false, ◌&&◌, ◌||◌, cond, List, [], ◌∷◌, ◌++◌, ℕ, zero, suc}

-- the test passes at some number below n (looked for from above; the `let` keeps a computation from going past the first)
unfoldable pub any_below : ℕ → (ℕ → Bool) → Bool
any_below zero f = false
any_below (suc n) f = let rest = any_below n f in f n || rest

-- the test passes at each number below n
unfoldable pub all_below : ℕ → (ℕ → Bool) → Bool
all_below zero f = true
all_below (suc n) f = f n && all_below n f

-- the list f 0, f 1, .. f (n - 1)
unfoldable pub tab : ℕ → (ℕ → ℕ) → List ℕ
tab zero f = []
tab (suc n) f = f 0 ∷ tab n (λ i. f (suc i))

-- what f gives at 0, at 1, .. at n - 1, one after the other
unfoldable pub gather : ℕ → (ℕ → List ℕ) → List ℕ
gather zero f = []
gather (suc n) f = gather n f ++ f n

-- the list where the test passes, else nothing
abbrev pub only : Bool → List ℕ → List ℕ
only b l = cond b l []
