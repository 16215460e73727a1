-- The eye of a Three through a point, as it is found on sound lines, and what the rows through it tell. Assumes nothing.
use mathlib.Core.Path.{◌≡◌, refl, ap, sym, subst, ◌∙◌}
use mathlib.Core.Bool.{Bool, true, false}
use mathlib.Core.Logic.{◌⊎◌, inl, inr}
use mathlib.Core.List.{List}
use Prim.Native.Nat.{ℕ, ◌+◌, ◌-◌, ◌*◌, ◌≤◌, ◌<◌}
use native.Mathlib.Nat.{mul_comm, mul-le-mul}
use native.Mathlib.Omega.{arith}
use lib.Dec.{T}
use lib.ListN.{get_or}
use borrow.Author.Tests.{eqb-true, eq-eqb}
use Rattle.rules.specs.Numbers.{is_none}
use Rattle.rules.specs.Bit.{bit, mask_of}
use Rattle.rules.specs.Line.{Stones}
use Rattle.rules.specs.Point.{line_no, cell_no, line_size, point_at, step_of, key_at}
use Rattle.rules.specs.Grid.{stone_at, starts_of, rows_through}
use Rattle.rules.specs.Forbidden.{some_row, black_rows, completes_five, is_real, gap_from, eye_of, strict_of}
use Rattle.rules.specs.declared.Player.TheVariants.{Black}
use Rattle.rules.specs.declared.RowKind.TheVariants.{Three}
use Rattle.rules.specs.declared.Verdict.{Verdict}
use Rattle.rules.proofs.Logic.{true-T, decide}
use Rattle.rules.proofs.Address.{size-le, step-le, step_back, step-at}
use Rattle.rules.proofs.Gap.{gap-inside, eye-lt, eye-free, five-not-real, real-told}
use Rattle.rules.proofs.Starts.{five-is}
use Rattle.point.specs.declared.place.Place.{Place}
use Rattle.point.specs.Places.{has_place, place_of}
use Rattle.grid.specs.Lines.{cells_of, Sound, mask_on}
use Rattle.grid.proofs.Lines.{line_at, mask-sound, stone-bits, length-cells_of, empty-cell}
use Rattle.grid.proofs.RowStarts.{none-short}
use Rattle.near.specs.Rows.{RowsAre}
use Rattle.near.specs.declared.rows.Rows.{Rows}
use Rattle.referee.specs.Referee.{strict_by, walk_by}
use Rattle.referee.proofs.RowsSeen.{strict-is}

-- a walk that stays among the points is one of plain numbers
pub walk-inside : (p back on : ℕ) → p < 256 → back ≤ p → on ≤ 224 → p - back + on < 225 → walk_by p back on ≡ p - back + on
unfolding walk_by
walk-inside p back on hp hb ho h = omega (arith, hp, hb, ho, h)

module _ (l : List ℕ) (p d j : ℕ) (s : Sound l) (hp : p < 225) (hd : d < 4) (t : T (rows_through Black Three (cells_of l) p d j)) where
  -- its line is stored
  pub has-line : has_place d p ≡ true
  has-line = go (decide (has_place d p))
    where
      go : (has_place d p ≡ true) ⊎ (has_place d p ≡ false) → has_place d p ≡ true
      go (inl e) = e
      go (inr e) = absurd (subst T (none-short Black Three (cells_of l) p d hd hp e j) t)

  module _ {a : Place} {m gap : ℕ} (ea : a ≡ place_of d p) (em : m ≡ mask_on Black l a.key) (eg : gap ≡ gap_from (bit m) j) where
    cell-is : a.cell ≡ cell_no d p
    unfolding place_of
    cell-is = ap (λ (x : Place). x.cell) ea ∙ rw has-line

    mask_is : mask_on Black l a.key ≡ mask_of 16 (stone_at Black (cells_of l) d (line_no d p))
    unfolding place_of
    mask_is =
        let th = line_at d p hd (true-T has-line) in
        ap (λ (x : Place). mask_on Black l x.key) ea ∙ rw has-line (mask-sound Black l (key_at d p) s th.key ∙ rw (th.dir, th.no))

    pub gap_is : gap ≡ gap_from (stone_at Black (cells_of l) d (line_no d p)) j
    gap_is = eg ∙ ap (λ (f : Stones). gap_from f j) (ap bit (em ∙ mask_is) ∙ stone-bits Black (cells_of l) d (line_no d p))

    on_line : gap < line_size d (line_no d p)
    on_line = rw gap_is (gap-inside (cells_of l) p d j hp hd t)

    module _ {step : ℕ} (et : step ≡ step_of d) where
      -- from the point back to the line's first cell, and on to the gap
      pub eye-found : p - a.cell * step + gap * step ≡ eye_of (cells_of l) p d j
      unfolding eye_of
      eye-found =
          rw (cell-is, et)
          (ap (λ (x : ℕ). p - cell_no d p * step_of d + x) (mul_comm gap (step_of d)) ∙ step-at d p hd hp gap on_line
          ∙ ap (point_at d (line_no d p)) gap_is)

      -- each of these numbers fits a byte
      pub eye-steps : (a.cell * step ≤ p) × (gap * step ≤ 224) × (p - a.cell * step + gap * step < 225)
      eye-steps = (
        rw (cell-is, et) (step_back d p hd hp),
        rw et (mul-le-mul {n₂ = 14} {m₂ = 16} (omega (arith, on_line, size-le d (line_no d p))) (step-le d)),
        rw eye-found (eye-lt (cells_of l) p d j hp hd t),
      )

  pub eye-small : {r : ℕ} → r ≡ eye_of (cells_of l) p d j → r < 225
  eye-small e = rw e (eye-lt (cells_of l) p d j hp hd t)

  pub eye-empty : {r : ℕ} → r ≡ eye_of (cells_of l) p d j → get_or (cells_of l) r 0 ≡ 0
  eye-empty e =
      rw e (eqb-true _ 0 (empty-cell l (eye_of (cells_of l) p d j) (eye-lt (cells_of l) p d j hp hd t) ∙ eye-free (cells_of l) p d j hp hd t))

  -- the Three is real or not by the rows through its eye
  module _ {e : ℕ} (at : e ≡ eye_of (cells_of l) p d j) {r : Rows} (rows : RowsAre (black_rows (cells_of l) e) r) {b : Bool}
      (eb : b ≡ some_row (starts_of r.fours)) where
    five-told : completes_five (cells_of l) e ≡ b
    five-told = sym (five-is (cells_of l) e rows.fours eb)

    pub five-seen : b ≡ true → false ≡ is_real strict_of (cells_of l) p d j
    five-seen f = five-not-real (cells_of l) p d j hp hd t strict_of at (five-told ∙ f)

    pub real-seen : b ≡ false → {v : Verdict} → v ≡ strict_by l e r → is_none v ≡ is_real strict_of (cells_of l) p d j
    real-seen f ev =
        real-told (cells_of l) p d j hp hd t strict_of at (five-told ∙ f)
        (ev ∙ strict-is (cells_of l) e rows l (length-cells_of l) (eye-small at)
        (sym (empty-cell l e (eye-small at)) ∙ eq-eqb _ 0 (eye-empty at)) (λ h. refl))
