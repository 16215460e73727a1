-- What one question looks at on sound lines: whether the eye of a Three completes a five, and whether a nested question is asked. Assumes
-- nothing.
use mathlib.Core.Path.{◌≡◌, refl, ap, sym, ◌∙◌}
use mathlib.Core.Bool.{Bool, true, false, not, ◌&&◌}
use mathlib.Core.List.{List}
use Prim.Native.Nat.{ℕ, ◌≤◌, ◌<◌}
use native.Mathlib.Omega.{arith}
use lib.ListN.{get_or}
use Rattle.rules.specs.Grid.{is_empty, starts_of, next_from}
use Rattle.rules.specs.Forbidden.{Ask, some_row, more_than_one, black_rows, completes_five}
use Rattle.rules.specs.Depth.{greatest, asks_nested, eye_depth, depth_of}
use Rattle.rules.proofs.Starts.{five-is, overline-is, double-four-is, twos-are}
use Rattle.rules.proofs.Numbered.{next-ge}
use Rattle.rules.proofs.Depth.{deepest_below, nested-told}
use Rattle.near.specs.Rows.{RowsAre}
use Rattle.near.specs.declared.rows.Rows.{Rows}
use Rattle.grid.specs.Lines.{cells_of}

-- a point of the lines whose cell is 0 is empty
pub empty-is : (l : List ℕ) (p : ℕ) → p < 225 → get_or (cells_of l) p 0 ≡ 0 → is_empty (get_or (cells_of l) p 0) ≡ true
empty-is l p hp z = rw z refl

-- the search begins with nothing found
pub none_below : (ask : Ask ℕ) (cells : List ℕ) (p : ℕ) → deepest_below ask cells p 0 ≡ 0
unfolding deepest_below greatest
none_below ask cells p = refl

-- .. and goes on: a start that is looked for from n on is n or more
pub not-before : (s : ℕ → Bool) {r n : ℕ} → r ≡ next_from s n → n ≤ 64 → n ≤ r
not-before s {r} {n} e h = let g = next-ge s n h in omega arith

-- ---- by the rows through a point

module _ (cells : List ℕ) (p : ℕ) {r : Rows} (rows : RowsAre (black_rows cells p) r) where
  pub nested-seen : {b : Bool}
      → b ≡ (not (some_row (starts_of r.fours)) && not (some_row (starts_of r.overlinings)) && not (more_than_one (starts_of r.swords))
      && more_than_one (starts_of r.twos)) → b ≡ asks_nested cells p
  nested-seen eb =
      nested-told cells p (five-is cells p rows.fours refl) (overline-is cells p rows.overlinings refl)
      (double-four-is cells p rows.swords refl) (twos-are cells p rows.twos refl) eb

  -- an eye at p counts 1 where it completes a five, else as the question there
  module _ {e : ℕ} (at : p ≡ e) {b : Bool} (eb : b ≡ some_row (starts_of r.fours)) where
    five-told : completes_five cells p ≡ b
    five-told = sym (five-is cells p rows.fours eb)

    pub five-counts : b ≡ true → 1 ≡ eye_depth depth_of cells e
    unfolding eye_depth
    five-counts f = sym (ap (eye_depth depth_of cells) (sym at) ∙ rw (five-told ∙ f) refl)

    pub deep-counts : b ≡ false → {n : ℕ} → n ≡ depth_of cells p → n ≡ eye_depth depth_of cells e
    unfolding eye_depth
    deep-counts f en = sym (ap (eye_depth depth_of cells) (sym at) ∙ rw (five-told ∙ f) (sym en))
