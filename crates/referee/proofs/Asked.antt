-- The strict question on sound lines: the cell at the point, and the trial stone put and taken off. Assumes nothing.
use mathlib.Core.Path.{◌≡◌, refl, ap, sym, ◌∙◌}
use mathlib.Core.Bool.{Bool, true, false, cond}
use mathlib.Core.List.{List}
use Prim.Native.Nat.{ℕ, zero, suc, ◌+◌, ◌*◌, ◌≤◌, ◌<◌}
use native.Mathlib.Omega.{arith}
use lib.Dec.{T, eqb}
use lib.ListN.{get_or}
use borrow.Author.Tests.{ne_eqb}
use Rattle.rules.specs.Grid.{is_empty, empties, start_masks, rows_through}
use Rattle.rules.specs.Forbidden.{with_black, strict_of}
use Rattle.rules.specs.declared.Player.TheVariants.{Black}
use Rattle.rules.specs.declared.RowKind.TheVariants.{Two, Three}
use Rattle.rules.specs.declared.Verdict.{Verdict}
use Rattle.rules.specs.declared.Verdict.TheVariants.{None}
use Rattle.rules.proofs.Grown.{twos-grown}
use Rattle.rules.proofs.Verdicts.{strict-taken}
use Rattle.lent.specs.Lists.{zeros}
use Rattle.point.specs.Places.{addresses}
use Rattle.grid.specs.Lines.{cell_of, cells_of, lines_of, Sound, write_on, mark_by, add_on, lift_on}
use Rattle.grid.proofs.Lines.{cells-lines_of, sound-lines_of, length-cells_of, cell-on, empty-cell}
use Rattle.grid.proofs.Lines.{cells-write, sound-write, trial, trial-empties}
use Rattle.grid.proofs.Marked.{add-write, trial-marked}
use Rattle.grid.proofs.Placed.{mark-by}
use Rattle.cells.specs.Cells.{Cells}

-- ---- by the cell at p

module _ (l : List ℕ) (p : ℕ) (hp : p < 225) {v : ℕ} (e : v ≡ cell_of l p) where
  pub cell-is : v ≡ get_or (cells_of l) p 0
  cell-is = e ∙ cell-on l p hp

  pub free-is : is_empty (get_or (cells_of l) p 0) ≡ eqb v 0
  free-is = sym (empty-cell l p hp) ∙ ap (λ (x : ℕ). eqb x 0) (sym cell-is)

  pub asked-taken : (v ≡ 0 → ⊥) → None ≡ strict_of (cells_of l) p
  asked-taken n = strict-taken (cells_of l) p (length-cells_of l) hp (free-is ∙ ne_eqb v 0 n)

-- a cell byte that is not 0 has a stone
taken-cell : (v : ℕ) → v ≤ 2 → (v ≡ 0 → ⊥) → is_empty v ≡ false
taken-cell zero h n = absurd (n refl)
taken-cell (suc zero) h n = refl
taken-cell (suc (suc zero)) h n = refl
taken-cell (suc (suc (suc v))) h n = absurd (omega arith)

module _ (cells : List ℕ) (p : ℕ) (ok : Cells cells) (hp : p < 225) where
  pub byte_full : (get_or cells p 0 ≡ 0 → ⊥) → is_empty (get_or cells p 0) ≡ false
  byte_full n = taken-cell (get_or cells p 0) (ok.small p hp) n

  pub byte-taken : (get_or cells p 0 ≡ 0 → ⊥) → None ≡ strict_of cells p
  byte-taken n = strict-taken cells p ok.long hp (byte_full n)

  -- the verdict on the lines of the cells
  pub on-lines-of : {l : List ℕ} {v : Verdict} → l ≡ lines_of cells → v ≡ strict_of (cells_of l) p → v ≡ strict_of cells p
  on-lines-of el ev = ev ∙ ap (λ (c : List ℕ). strict_of c p) (ap cells_of el ∙ cells-lines_of cells ok)

  pub lines-of-sound : {l : List ℕ} → l ≡ lines_of cells → Sound l
  lines-of-sound el = rw el (sound-lines_of cells ok)

  pub lines-of-cells : {l : List ℕ} → l ≡ lines_of cells → cells_of l ≡ cells
  lines-of-cells el = ap cells_of el ∙ cells-lines_of cells ok

-- lines that were wanted are built
pub lines-wanted : (wanted : Bool) (cells : List ℕ) {l : List ℕ} → l ≡ cond wanted (lines_of cells) (zeros 144) → T wanted
    → l ≡ lines_of cells
lines-wanted true cells e t = e
lines-wanted false cells e t = absurd t

-- ---- the trial stone: m is l with Black at p

module _ (l : List ℕ) (p : ℕ) (s : Sound l) (hp : p < 225) (free : get_or (cells_of l) p 0 ≡ 0) {m : List ℕ} (e : m ≡ write_on l p 1) where
  pub on-sound : Sound m
  on-sound = rw e (sound-write l p 1 s (omega arith))

  pub on-cells : cells_of m ≡ with_black (cells_of l) p
  on-cells = ap cells_of e ∙ cells-write l p 1 s (omega arith)

  pub on-fewer : empties (cells_of l) ≡ suc (empties (cells_of m))
  on-fewer = rw e (trial-empties Black l p s hp free)

  -- the Threes that the Twos have become
  pub on-threes : {twos : List ℕ} → twos ≡ start_masks (rows_through Black Two (cells_of l) p)
      → twos ≡ start_masks (rows_through Black Three (cells_of m) p)
  on-threes et =
      et ∙ twos-grown (cells_of l) p (length-cells_of l) hp free
      ∙ ap (λ (c : List ℕ). start_masks (rows_through Black Three c p)) (sym on-cells)

  -- .. and off again
  pub off-same : {n o : List ℕ} → n ≡ m → o ≡ write_on n p 0 → o ≡ l
  off-same en eo = eo ∙ ap (λ (x : List ℕ). write_on x p 0) (en ∙ e) ∙ trial Black l p s free

-- .. added and lifted by the table of addresses
module _ (l table : List ℕ) (p : ℕ) (t : table ≡ addresses) (s : Sound l) (hp : p < 225) (free : get_or (cells_of l) p 0 ≡ 0) {m : List ℕ}
    (em : m ≡ mark_by l table p Black true) where
  added-on : m ≡ add_on l p Black
  added-on = em ∙ mark-by l table p Black true t

  pub added : m ≡ write_on l p 1
  added = added-on ∙ add-write l p Black s hp free

  pub lifted : {n o : List ℕ} → n ≡ m → o ≡ mark_by n table p Black false → o ≡ l
  lifted {n} en eo =
      eo ∙ mark-by n table p Black false t ∙ ap (λ (x : List ℕ). lift_on x p Black) (en ∙ added-on) ∙ trial-marked l p Black s hp free

-- ---- what falls, on lines m that are the lines l at the start
pub fewer : (n : ℕ) (l m : List ℕ) (t : ℕ) → m ≡ l → 6 * empties (cells_of l) + suc n ≡ t → 6 * empties (cells_of m) + n < t
fewer n l m t e h = rw e (omega arith)
