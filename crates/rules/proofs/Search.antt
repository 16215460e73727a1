-- The walk over the Threes through a point, start by start: what four start masks name. Assumes nothing.
use mathlib.Core.Path.{◌≡◌, ap, sym, subst, ◌∙◌}
use mathlib.Core.Bool.{Bool}
use mathlib.Core.List.{List}
use Prim.Native.Nat.{ℕ, ◌/◌, ◌%◌, ◌<◌}
use native.Mathlib.Omega.{arith}
use lib.Dec.{T}
use Rattle.rules.specs.Grid.{start_masks, starts_of, numbered, next_from, rows_through}
use Rattle.rules.specs.declared.Player.TheVariants.{Black}
use Rattle.rules.specs.declared.RowKind.TheVariants.{Three}
use Rattle.rules.proofs.Starts.{starts-named, start-low}
use Rattle.rules.proofs.Numbered.{next-on}

module _ (cells : List ℕ) (p : ℕ) (starts : List ℕ) (e : starts ≡ start_masks (rows_through Black Three cells p)) where
  abbrev at : ℕ → Bool
  at = numbered (starts_of starts)

  -- what the masks name are the Threes
  pub start_is : (k : ℕ) → k < 64 → numbered (starts_of starts) k ≡ numbered (rows_through Black Three cells p) k
  unfolding numbered
  start_is k hk =
      ap (λ (m : List ℕ). starts_of m (k / 16) (k % 16)) e
      ∙ starts-named (rows_through Black Three cells p) (start-low Black Three cells p) (k / 16) (k % 16) (omega arith) (omega arith)

  module _ (n k : ℕ) (ek : k ≡ next_from (numbered (starts_of starts)) n) (hk : k < 64) where
    pub three-there : T (rows_through Black Three cells p (k / 16) (k % 16))
    unfolding numbered
    three-there =
        subst T (start_is k hk) (subst (λ (x : ℕ). T (at x)) (sym ek) (next-on at n (subst (λ (x : ℕ). x < 64) ek hk)))
