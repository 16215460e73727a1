-- What is known where nothing is refused. Assumes nothing.
use mathlib.Core.Path.{◌≡◌, ◌∙◌}
use mathlib.Core.List.{List}
use Prim.Native.Nat.{ℕ, ◌<◌}
use lib.ListN.{get_or}
use borrow.Author.Tests.{eqb-true}
use Rattle.rules.specs.Refusals.{unless, colour_refusal, kind_refusal}
use Rattle.rules.specs.Grid.{is_empty}
use Rattle.rules.proofs.Logic.{T_true}
use Rattle.rules.proofs.Refusals.{first-none, passed}
use Rattle.cells.specs.Cells.{Cells, cells_refusal, cells_refusal_at, cells_refusal_for, cells_stones_refusal}
use Rattle.cells.proofs.Given.{cells_in, cells-at-in, cells-for-in, empty-value}
use Rattle.second.specs.Lists.{cells_rows_refusal, cells_rows_on_refusal, cells_forbidden_refusal}

module _ (cells : List ℕ) where
  pub rows-open : (colour kind : ℕ) → cells_rows_refusal cells colour kind ≡ 0 → Cells cells
  unfolding cells_rows_refusal cells_stones_refusal
  rows-open colour kind e =
      let s = (first-none (cells_stones_refusal cells colour) (kind_refusal kind) e).0 in
      cells_in cells (first-none (cells_refusal cells) (colour_refusal colour) s).0

  pub for-open : (p colour : ℕ) → cells_refusal_for cells p colour ≡ 0 → Cells cells × (p < 225)
  for-open p colour e = let q = cells-for-in cells p colour e in (q.0, q.1)

  pub rows-on-open : (p colour kind : ℕ) → cells_rows_on_refusal cells p colour kind ≡ 0 → Cells cells × (p < 225)
  unfolding cells_rows_on_refusal
  rows-on-open p colour kind e = for-open p colour (first-none (cells_refusal_for cells p colour) (kind_refusal kind) e).0

  pub forbidden-open : (p : ℕ) → cells_forbidden_refusal cells p ≡ 0 → Cells cells × (p < 225) × (get_or cells p 0 ≡ 0)
  unfolding cells_forbidden_refusal
  forbidden-open p e =
      let (s, t) = first-none (cells_refusal_at cells p) (unless (is_empty (get_or cells p 0)) 11) e in
      let q = cells-at-in cells p s in
      (q.0, q.1, eqb-true (get_or cells p 0) 0 (empty-value cells q.0 p q.1 ∙ T_true (passed (is_empty (get_or cells p 0)) 10 t)))
