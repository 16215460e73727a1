-- A player's rows through a point by the masks of its four lines are those of the cells; the verdict by Black's is the verdict. Assumes
-- nothing.
use mathlib.Core.Path.{◌≡◌, refl, ap, ap₂, sym, ◌∙◌, fun_ext}
use mathlib.Core.Bool.{Bool, true, false, ◌&&◌, ◌||◌}
use mathlib.Core.Logic.{◌⊎◌, inl, inr}
use mathlib.Core.List.{List, [], ◌∷◌}
use Prim.Native.Nat.{ℕ, zero, suc, ◌<◌}
use native.Mathlib.Omega.{arith}
use lib.Dec.{T, ltb, eqb}
use lib.ListN.{get_or, length}
use Rattle.rules.specs.Bit.{bit, mask_of}
use Rattle.rules.specs.Numbers.{colour_no, is_black, opponent_of}
use Rattle.rules.specs.Line.{Stones, row_at, through}
use Rattle.rules.specs.Point.{line_no, cell_no, line_size, point_at}
use Rattle.rules.specs.Grid.{is_empty, stone_at, start_masks, starts_of, row_on, rows_through}
use Rattle.rules.specs.Forbidden.{some_row, more_than_one, black_rows}
use Rattle.rules.specs.Forbidden.{more_twos}
use Rattle.rules.specs.Forbidden.{may_forbid, plain_of, strict_of}
use Rattle.rules.specs.declared.Player.{Player}
use Rattle.rules.specs.declared.Player.TheVariants.{Black}
use Rattle.rules.specs.declared.RowKind.{RowKind}
use Rattle.rules.specs.declared.RowKind.TheVariants.{Two, Sword, Four, Overlining}
use Rattle.rules.proofs.Logic.{true-T, decide}
use Rattle.rules.proofs.Starts.{masks-same, five-is, overline-is, double-four-is, twos-are}
use Rattle.rules.proofs.Verdicts.{may-told, plain-told, strict-told}
use Rattle.point.specs.Places.{has_place}
use Rattle.near.specs.Rows.{stones_shown, seen, RowsAre}
use Rattle.near.specs.declared.rows.Rows.{Rows}
use Rattle.grid.specs.Lines.{cells_of, Sound, masks_through}
use Rattle.grid.proofs.Lines.{stone-bits}
use Rattle.grid.proofs.RowStarts.{short_none}
use Rattle.grid.proofs.ThroughPoint.{mask-through}
use Rattle.referee.specs.Referee.{plain_by, strict_by, Triable, MasksOf}

-- the stones that the mask of a stored line shows
stones-shown : (r : Player) (cells m : List ℕ) (p d : ℕ) → MasksOf r cells p m → d < 4 → has_place d p ≡ true
    → stones_shown m p d ≡ stone_at r cells d (line_no d p)
unfolding stones_shown MasksOf stone_at
stones-shown r cells m p d e hd t =
    fun_ext (λ j.
    ap (λ (f : Stones). ltb j (line_size d (line_no d p)) && f j) (ap bit (e d hd (true-T t)) ∙ stone-bits r cells d (line_no d p))
    ∙ twice (ltb j (line_size d (line_no d p))) (eqb (get_or cells (point_at d (line_no d p) j) 0) (colour_no r)))
  where
    twice : (a b : Bool) → (a && (a && b)) ≡ (a && b)
    twice true b = refl
    twice false b = refl

-- the rows of either colour
module _ (r : Player) (cells own other : List ℕ) (p : ℕ) (hp : p < 225) (eo : MasksOf r cells p own)
    (et : MasksOf (opponent_of r) cells p other) where
  pub seen-rows : (kind : RowKind) (d j : ℕ) → d < 4 → seen (is_black r) own other p kind d j ≡ rows_through r kind cells p d j
  unfolding seen rows_through row_on
  seen-rows kind d j hd = go (decide (has_place d p))
    where
      go : (has_place d p ≡ true) ⊎ (has_place d p ≡ false) → seen (is_black r) own other p kind d j ≡ rows_through r kind cells p d j
      go (inl t) =
          ap₂ (λ (f g : Stones). through kind (cell_no d p) j && row_at (is_black r) (line_size d (line_no d p)) f g kind j)
          (stones-shown r cells own p d eo hd t) (stones-shown (opponent_of r) cells other p d et hd t)
      go (inr t) =
          ap (λ (x : Bool). through kind (cell_no d p) j && x)
          (short_none (is_black r) (stones_shown own p d) (stones_shown other p d) kind p d j hd hp t
          ∙ sym (short_none (is_black r) (stone_at r cells d (line_no d p)) (stone_at (opponent_of r) cells d (line_no d p)) kind p d j hd hp t))

  pub rows_seen : {rows : Rows} → RowsAre (seen (is_black r) own other p) rows → RowsAre (λ kind. rows_through r kind cells p) rows
  rows_seen s =
      record {
        fours = s.fours ∙ same Four;
        overlinings = s.overlinings ∙ same Overlining;
        swords = s.swords ∙ same Sword;
        twos = s.twos ∙ same Two;
      }
    where
      same : (kind : RowKind) → start_masks (seen (is_black r) own other p kind) ≡ start_masks (rows_through r kind cells p)
      same kind = masks-same (seen (is_black r) own other p kind) (rows_through r kind cells p) (seen-rows kind)

-- masks that are given one by one
pub masks-four : (r : Player) (cells : List ℕ) (p : ℕ) {v h a d : ℕ} → v ≡ mask_of 16 (stone_at r cells 0 (line_no 0 p))
    → h ≡ mask_of 16 (stone_at r cells 1 (line_no 1 p)) → a ≡ mask_of 16 (stone_at r cells 2 (line_no 2 p))
    → d ≡ mask_of 16 (stone_at r cells 3 (line_no 3 p)) → MasksOf r cells p (v ∷ h ∷ a ∷ d ∷ [])
unfolding MasksOf
masks-four r cells p ev eh ea ed zero l t = ev
masks-four r cells p ev eh ea ed (suc zero) l t = eh
masks-four r cells p ev eh ea ed (suc (suc zero)) l t = ea
masks-four r cells p ev eh ea ed (suc (suc (suc zero))) l t = ed
masks-four r cells p ev eh ea ed (suc (suc (suc (suc k)))) l t = absurd (omega arith)

-- the masks of sound lines
pub masks-sound : (r : Player) (l : List ℕ) (p : ℕ) → Sound l → p < 225 → MasksOf r (cells_of l) p (masks_through l p r)
unfolding MasksOf
masks-sound r l p s hp d hd t = mask-through l p r d s hp hd t

-- ---- section 5's order by these masks is the verdict

module _ (cells : List ℕ) (p : ℕ) {r : Rows} (rows : RowsAre (black_rows cells p) r) where
  pub plain-is : (l : List ℕ) → (T (more_twos cells p) → cells_of l ≡ cells) → plain_by l p r ≡ plain_of cells p
  unfolding plain_by
  plain-is l same =
      plain-told cells p (overline-is cells p rows.overlinings refl) (double-four-is cells p rows.swords refl)
      (twos-are cells p rows.twos refl) (cells_of l) same

  pub strict-is : (l : List ℕ) → length cells ≡ 225 → p < 225 → is_empty (get_or cells p 0) ≡ true
      → (T (more_twos cells p) → cells_of l ≡ cells) → strict_by l p r ≡ strict_of cells p
  unfolding strict_by plain_by
  strict-is l long hp free same =
      strict-told cells p (overline-is cells p rows.overlinings refl) (double-four-is cells p rows.swords refl)
      (twos-are cells p rows.twos refl) (cells_of l) same long hp free (five-is cells p rows.fours refl)

  -- a stone may be tried where they say that there is more than one Two
  pub triable : (l : List ℕ) → Sound l → cells_of l ≡ cells → get_or cells p 0 ≡ 0 → Triable l p r.twos
  triable l s e free =
      record {
        sound = s;
        free = ap (λ (c : List ℕ). get_or c p 0) e ∙ free;
        starts = rows.twos ∙ ap (λ (c : List ℕ). start_masks (rows_through Black Two c p)) (sym e);
      }

  pub may-is : {b : Bool}
      → b ≡ (some_row (starts_of r.overlinings) || more_than_one (starts_of r.swords) || more_than_one (starts_of r.twos))
      → b ≡ may_forbid cells p
  may-is eb =
      may-told cells p (overline-is cells p rows.overlinings refl) (double-four-is cells p rows.swords refl)
      (twos-are cells p rows.twos refl) eb
