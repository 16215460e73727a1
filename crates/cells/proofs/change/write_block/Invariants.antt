-- `cells::change::write_block` meets its contract: up to the point the cells are as they were, behind it the one cell is set. Assumes
-- nothing.
use mathlib.Core.Path.{◌≡◌}
use mathlib.Core.Bool.{cond}
use mathlib.Core.List.{List}
use Prim.Native.Nat.{ℕ}
use lib.Dec.{ltb}
use lib.ListN.{set}
use Rattle.cells.proofs.change.write_block.Given as goal

-- the cells when the places below i are written
abbrev pub written : List ℕ → ℕ → ℕ → ℕ → ℕ → List ℕ
written cells code value place i = cond (ltb place i) (set cells code value) cells

abbrev pub invariant-loop-i : goal.invariant-loop-i
invariant-loop-i l = l.cells ≡ written l.initial.cells l.code l.value l.place l.i
