-- The bits of a number, and the number with given bits: how a line's cells are a mask.
use Rattle.std.specs.Prelude.{ℕ, zero, suc, ◌+◌, ◌*◌, ◌/◌, ◌%◌, ◌^◌, Bool, true, false, eqb}

-- bit j of the mask m
unfoldable pub bit : ℕ → ℕ → Bool
bit m j = eqb (m / 2 ^ j % 2) 1

-- a test as a number: 1 where it passes, 0 where it fails
abbrev pub digit : Bool → ℕ
digit true = 1
digit false = 0

-- the mask of w bits whose bit j is f j
unfoldable pub mask_of : ℕ → (ℕ → Bool) → ℕ
mask_of zero f = 0
mask_of (suc w) f = mask_of w (λ j. f (suc j)) * 2 + digit (f 0)

-- how many numbers below w pass the test
unfoldable pub count_of : ℕ → (ℕ → Bool) → ℕ
count_of zero f = 0
count_of (suc w) f = digit (f 0) + count_of w (λ j. f (suc j))
