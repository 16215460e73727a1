-- The depth where no stone may be tried. Assumes nothing.
use mathlib.Core.Path.{◌≡◌, refl, ap, sym, ◌∙◌}
use mathlib.Core.Bool.{Bool, true, false, not, ◌&&◌, cond}
use mathlib.Core.List.{List}
use Prim.Native.Nat.{ℕ, zero, suc, ◌≤◌, ◌<◌}
use native.Mathlib.Omega.{arith}
use lib.Dec.{eqb}
use lib.ListN.{get_or}
use Rattle.rules.specs.Bit.{digit}
use Rattle.rules.specs.Grid.{is_empty}
use Rattle.rules.specs.Forbidden.{completes_five, is_overline, is_double_four, more_twos}
use Rattle.rules.specs.Depth.{asks_nested, depth_of}
use Rattle.rules.proofs.Depth.{depth-taken, depth-one}
use Rattle.std.specs.Prelude.{Option, Some, None}
use Rattle.cells.specs.Cells.{Cells}
use Rattle.referee.specs.Answers.{is_tried}

-- a cell byte is empty where it is 0
empty-byte : (v : ℕ) → v ≤ 2 → is_empty v ≡ eqb v 0
empty-byte zero h = refl
empty-byte (suc zero) h = refl
empty-byte (suc (suc zero)) h = refl
empty-byte (suc (suc (suc v))) h = absurd (omega arith)

-- nothing nested is asked where not more than one Two goes through p
few-twos : (cells : List ℕ) (p : ℕ) → more_twos cells p ≡ false → asks_nested cells p ≡ false
unfolding asks_nested
few-twos cells p m = rw m (go (not (completes_five cells p)) (not (is_overline cells p)) (not (is_double_four cells p)))
  where
    go : (a b c : Bool) → (a && b && c && false) ≡ false
    go true true true = refl
    go true true false = refl
    go true false c = refl
    go false b c = refl

pub shallow : (cells : List ℕ) (p : ℕ) → Cells cells → p < 225 → is_tried cells p ≡ false → digit (eqb (get_or cells p 0) 0) ≡ depth_of cells p
unfolding is_tried
shallow cells p ok hp n = ap digit (sym (empty-byte (get_or cells p 0) (ok.small p hp))) ∙ go (is_empty (get_or cells p 0)) refl n
  where
    go : (e : Bool) → is_empty (get_or cells p 0) ≡ e → (e && more_twos cells p) ≡ false → digit e ≡ depth_of cells p
    go true z m = depth-one cells p ok.long hp z (few-twos cells p m)
    go false z m = depth-taken cells p ok.long hp z

-- ---- the lines that are handed over with a verdict: some only where they are wanted

pub lines-there : (wanted : Bool) {l m : List ℕ} → Some l ≡ cond wanted (Some m) None → l ≡ m
lines-there true e = cc
lines-there false e = cc

pub lines-none : (wanted : Bool) (m : List ℕ) → ◌≡◌ {A = Option (List ℕ)} None (cond wanted (Some m) None) → wanted ≡ false
lines-none true m e = cc
lines-none false m e = refl
