-- Lines that are built stone by stone, by section 3's table of addresses, are the lines of the cells. Assumes nothing.
use mathlib.Core.Path.{◌≡◌, ap, ◌∙◌}
use mathlib.Core.Bool.{true, false, cond}
use mathlib.Core.Logic.{◌⊎◌, inl, inr}
use mathlib.Core.List.{List}
use Prim.Native.Nat.{ℕ, zero, suc, ◌+◌, ◌≤◌, ◌<◌}
use native.Mathlib.Omega.{arith}
use lib.ListN.{get_or, length}
use Rattle.rules.specs.Numbers.{player_of, is_colour}
use Rattle.rules.specs.declared.Player.{Player}
use Rattle.rules.proofs.Logic.{decide}
use Rattle.point.specs.Places.{addresses}
use Rattle.cells.proofs.Filled.{filled, filled_more, filled_next, length-filled}
use Rattle.grid.specs.Lines.{lines_of, lines_by, built_by, mark_by, add_on}
use Rattle.grid.proofs.Placed.{mark-by}
use Rattle.grid.proofs.Marked.{add-lines_of, skip-lines_of}
use Rattle.grid.proofs.Same.{lines_start, lines-filled}

after : (n : ℕ) → n + 1 ≡ suc n
after n = omega arith

-- a turn of the loop: the next cell has a stone, or none
module _ (cells table : List ℕ) (n : ℕ) {l : List ℕ} (e : l ≡ built_by cells table n) where
  pub stone-more : {m : List ℕ} {r : Player} → is_colour (get_or cells n 0) ≡ true → r ≡ player_of (get_or cells n 0)
      → m ≡ mark_by l table n r true → m ≡ built_by cells table (n + 1)
  unfolding built_by
  stone-more h er em = em ∙ rw (after n, h, er, e)

  pub none_more : is_colour (get_or cells n 0) ≡ false → l ≡ built_by cells table (n + 1)
  unfolding built_by
  none_more h = rw (after n, h) e

module _ (cells table : List ℕ) (t : table ≡ addresses) where
  abbrev cell : ℕ → ℕ
  cell p = get_or cells p 0

  -- one cell more
  one_more : (l : List ℕ) (n : ℕ) → n < 225 → l ≡ lines_of (filled 225 cell n)
      → cond (is_colour (cell n)) (mark_by l table n (player_of (cell n)) true) l ≡ lines_of (filled 225 cell (n + 1))
  one_more l n hn e = go (length-filled 225 cell n) (filled_next 225 cell n hn) (decide (is_colour (cell n)))
    where
      go : length (filled 225 cell n) ≡ 225 → get_or (filled 225 cell n) n 0 ≡ 0 → (is_colour (cell n) ≡ true) ⊎ (is_colour (cell n) ≡ false)
          → cond (is_colour (cell n)) (mark_by l table n (player_of (cell n)) true) l ≡ lines_of (filled 225 cell (n + 1))
      go long none (inl h) =
          rw h (mark-by l table n (player_of (cell n)) true t ∙ ap (λ (x : List ℕ). add_on x n (player_of (cell n))) e
          ∙ add-lines_of (filled 225 cell n) n (cell n) long hn none h ∙ ap lines_of (filled_more 225 cell n hn))
      go long none (inr h) =
          rw h (e ∙ skip-lines_of (filled 225 cell n) n (cell n) long hn none h ∙ ap lines_of (filled_more 225 cell n hn))

  built : (n : ℕ) → n ≤ 225 → built_by cells table n ≡ lines_of (filled 225 cell n)
  unfolding built_by
  built zero h = lines_start cell
  built (suc n) h =
      one_more (built_by cells table n) n (omega arith) (built n (omega arith)) ∙ ap (λ (x : ℕ). lines_of (filled 225 cell x)) (after n)

  pub lines-by : lines_by cells table ≡ lines_of cells
  lines-by = built 225 (omega arith) ∙ lines-filled cells
