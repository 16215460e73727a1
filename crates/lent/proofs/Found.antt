-- Laws of the first byte that passes a test, as a loop looks for it. Assumes nothing.
use mathlib.Core.Path.{◌≡◌}
use mathlib.Core.Bool.{Bool, true, false}
use mathlib.Core.List.{List}
use Prim.Native.Nat.{ℕ, ◌+◌, ◌≤◌, ◌<◌}
use native.Mathlib.Numerals.{add-one}
use native.Mathlib.Omega.{arith}
use lib.ListN.{length, get_or, drop, drop_of_length-le}
use lib.Seq.{drop-cons}
use Rattle.lent.specs.Slices.{first_at}

pub first-hit : (f : ℕ → Bool) (s : List ℕ) (i : ℕ) → i < length s → f (get_or s i 0) ≡ true → i + first_at f (drop i s) ≡ i
unfolding first_at
first-hit f s i h e = rw (drop-cons s i 0 h) (rw e (omega arith))

pub first_step : (f : ℕ → Bool) (s : List ℕ) (i : ℕ) → i < length s → f (get_or s i 0) ≡ false
    → i + first_at f (drop i s) ≡ (i + 1) + first_at f (drop (i + 1) s)
unfolding first_at
first_step f s i h e = rw (add-one, drop-cons s i 0 h) (rw e (omega arith))

pub first-end : (f : ℕ → Bool) (s : List ℕ) (i : ℕ) → length s ≤ i → i + first_at f (drop i s) ≡ i
unfolding first_at
first-end f s i h = rw (drop_of_length-le s h) (omega arith)
