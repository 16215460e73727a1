-- Texts written one behind the other, each where there is room for it. Assumes nothing.
use mathlib.Core.Path.{◌≡◌, ap, ◌∙◌}
use mathlib.Core.List.{List, ◌++◌}
use Prim.Native.Nat.{ℕ, ◌+◌, ◌≤◌}
use native.Mathlib.Omega.{arith}
use lib.ListN.{length}
use Rattle.lent.specs.Lists.{kept}
use Rattle.lent.proofs.Laws.{kept_lem}

-- ---- an item that fits a list of at most `size` bytes
module _ (item : List ℕ) (size : ℕ) (l : List ℕ) {new : List ℕ} (k : new ≡ kept size l item) where
  -- it has at most m bytes, for which there is room
  pub put : (m : ℕ) → length item ≤ m → length l + m ≤ size → new ≡ l ++ item
  put m short room = k ∙ kept_lem size l item (omega arith)

  -- .. that is a word by value
  pub put_word : (text : List ℕ) → item ≡ text → length text ≤ 4 → length l + 4 ≤ size → new ≡ l ++ text
  put_word text same short room =
      let long = ap length same in
      put 4 (omega arith) room ∙ ap (λ (x : List ℕ). l ++ x) same
