-- The lines of cells that are written one by one, the test that two lists are the same, and that it decides soundness. Assumes nothing.
use mathlib.Core.Path.{◌≡◌, refl, ap, ap₂, sym, ◌∙◌}
use mathlib.Core.Bool.{Bool, true, false, ◌&&◌}
use mathlib.Core.Logic.{◌⊎◌, inl, inr}
use mathlib.Core.List.{List, [], ◌∷◌}
use Prim.Native.Nat.{ℕ, ◌<◌}
use native.Mathlib.Omega.{arith}
use lib.Dec.{T, eqb, eqb→eq}
use lib.ListN.{length, get_or}
use lib.Pointwise.{pointwise}
use lib.Seq.{ext_get_or}
use borrow.Author.Tests.{eq-eqb, lt-ltb}
use Rattle.rules.proofs.Logic.{true-T, decide, and_left, and_right}
use Rattle.lent.specs.Lists.{zeros}
use Rattle.cells.proofs.Filled.{filled, filled_at, filled_none}
use Rattle.grid.specs.Lines.{same_list, lines_of, cells_of, Sound, is_sound}
use Rattle.grid.proofs.Lines.{lines-zeros, lines-cong}

-- ---- the lines of cells that are written one by one

pub lines_start : (f : ℕ → ℕ) → zeros 144 ≡ lines_of (filled 225 f 0)
lines_start f = lines-zeros ∙ ap lines_of (filled_none 225 f)

pub lines-filled : (cells : List ℕ) → lines_of (filled 225 (λ c. get_or cells c 0) 225) ≡ lines_of cells
lines-filled cells =
    lines-cong (filled 225 (λ c. get_or cells c 0) 225) cells
    (λ c h. filled_at 225 (λ i. get_or cells i 0) 225 c h ∙ rw (lt-ltb c 225 h))

-- ---- the test of sameness

pub same_refl : (l : List ℕ) → same_list l l ≡ true
unfolding same_list
same_refl [] = refl
same_refl (x ∷ l) = rw (eq-eqb x x refl) (same_refl l)

pub same-eq : (l m : List ℕ) → T (same_list l m) → l ≡ m
unfolding same_list
same-eq [] [] t = refl
same-eq [] (y ∷ m) t = absurd t
same-eq (x ∷ l) [] t = absurd t
same-eq (x ∷ l) (y ∷ m) t =
    ap₂ {C = List ℕ} (λ a b. a ∷ b) (eqb→eq x y (and_left (eqb x y) (same_list l m) t)) (same-eq l m (and_right (eqb x y) (same_list l m) t))

-- `==` of two arrays is that test
pub pairs-same : (l m : List ℕ) → pointwise eqb l m ≡ same_list l m
unfolding same_list
pairs-same [] [] = refl
pairs-same [] (y ∷ m) = refl
pairs-same (x ∷ l) [] = refl
pairs-same (x ∷ l) (y ∷ m) = ap (λ (b : Bool). eqb x y && b) (pairs-same l m)

-- the test of soundness decides it
pub test-sound : (l : List ℕ) → T (is_sound l) → Sound l
unfolding is_sound Sound
test-sound l t = same-eq l (lines_of (cells_of l)) t

pub sound-test : (l : List ℕ) → Sound l → T (is_sound l)
unfolding is_sound Sound
sound-test l s = true-T (ap (λ (x : List ℕ). same_list l x) (sym s) ∙ same_refl l)
