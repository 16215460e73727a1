-- The rows of a line are where `matches` says so of its segments: what `RowKind::matches` and `Line::rows` of the original have in common.
-- Assumes nothing.
use mathlib.Core.Path.{◌≡◌, refl, sym, ap, ap₂, ◌∙◌}
use mathlib.Core.Bool.{Bool, true, false, ◌&&◌, cond}
use Prim.Native.Nat.{ℕ, zero, suc, ◌+◌, ◌-◌}
use native.Mathlib.Omega.{arith}
use lib.Dec.{eqb}
use borrow.Author.Tests.{le-leb, leb-true}
use Rattle.rules.specs.Bit.{bit, mask_of}
use Rattle.rules.specs.Line.{Stones, inside, scores, holds, pair_at, no_stone, open_at, over_at, row_at, around}
use Rattle.rules.specs.declared.RowKind.{RowKind}
use Rattle.rules.specs.declared.RowKind.TheVariants.{Two, Three, Straight, Sword, Four, Five, Overlining, Overlined}
use Rattle.rules.proofs.Around.{segment, scores-around, holds-around, last-around}
use Rattle.segment.specs.declared.segment.Segment.{Segment}
use Rattle.std.specs.Prelude.{Option, Some, None}
use Rattle.segment.specs.Segments.{segment_own, segment_other}
use Rattle.segment.specs.Rows.{segment_scores, segment_holds, passes_before, open_of, over_of, match_of}
use Rattle.line.specs.declared.line.Line.{Line}
use Rattle.line.specs.Lines as line

-- the segment before that of the window at j, if there is one
abbrev pub before_of : Line → ℕ → Option Segment
before_of l zero = None
before_of l (suc i) = Some (line.segment_of l i)

-- a colour's stones in a segment are the segment of its stones
picked : (b : Bool) (x y j : ℕ) → bit (cond b (mask_of 7 (around (bit x) j)) (mask_of 7 (around (bit y) j))) ≡ segment (bit (cond b x y)) j
picked true x y j = refl
picked false x y j = refl

module _ (l : Line) (colour : ℕ) where
  own_of : (j : ℕ) → segment_own (line.segment_of l j) colour ≡ segment (line.own l colour) j
  own_of j = picked (eqb colour 1) l.blacks l.whites j

  other-of : (j : ℕ) → segment_other (line.segment_of l j) colour ≡ segment (line.other l colour) j
  other-of j = picked (eqb colour 1) l.whites l.blacks j

  -- a window of the line, and the test of it
  On : ℕ → Type 0
  On j = inside l.size j ≡ true

  on-back : (i : ℕ) → On (suc i) → On i
  unfolding On inside
  on-back i h = le-leb (i + 5) l.size (omega (arith, leb-true (suc i + 5) l.size h))

  scored : ℕ → ℕ → Bool
  scored n j = scores (eqb colour 1) l.size (line.own l colour) (line.other l colour) n j

  held : ℕ → ℕ → Bool
  held n j = holds l.size (line.own l colour) (line.other l colour) n j

  scores-of : (n j : ℕ) → On j → segment_scores colour n (line.segment_of l j) ≡ scored n j
  unfolding On scored
  scores-of n j h =
      ap₂ (λ (f g : Stones). scores (eqb colour 1) 7 f g n 1) (own_of j) (other-of j)
      ∙ scores-around (line.own l colour) (line.other l colour) j (eqb colour 1) l.size n h

  holds_of : (n j : ℕ) → On j → segment_holds colour n (line.segment_of l j) ≡ held n j
  unfolding On held
  holds_of n j h =
      ap₂ (λ (f g : Stones). holds 7 f g n 1) (own_of j) (other-of j)
      ∙ holds-around (line.own l colour) (line.other l colour) j l.size n h

  -- both windows, told by both segments
  pair_of : (s : Segment → Bool) (w : ℕ → Bool) → ((j : ℕ) → On j → s (line.segment_of l j) ≡ w j) → (j : ℕ) → On j
      → (passes_before s (before_of l j) && s (line.segment_of l j)) ≡ pair_at w j
  unfolding pair_at
  pair_of s w e zero h = refl
  pair_of s w e (suc i) h =
      ap₂ (λ (a b : Bool). a && b) (e i (on-back i h) ∙ ap w back) (e (suc i) h)
      ∙ sym (ap (λ (b : Bool). b && w (suc i - 1) && w (suc i)) (le-leb 1 (suc i) (omega arith)))
    where
      back : i ≡ suc i - 1
      back = omega arith

  last_of : (j : ℕ) → no_stone (segment_own (line.segment_of l j) colour) (segment_other (line.segment_of l j) colour) 5
      ≡ no_stone (line.own l colour) (line.other l colour) (j + 4)
  last_of j =
      ap₂ (λ (f g : Stones). no_stone f g 5) (own_of j) (other-of j) ∙ last-around (line.own l colour) (line.other l colour) j

  open_of_lem : (n j : ℕ) → On j → open_of colour n (before_of l j) (line.segment_of l j)
      ≡ open_at (eqb colour 1) l.size (line.own l colour) (line.other l colour) n j
  unfolding open_of open_at scored
  open_of_lem n j h = ap₂ (λ (a b : Bool). a && b) (pair_of (segment_scores colour n) (scored n) (scores-of n) j h) (last_of j)

  over-of : (n j : ℕ) → On j → over_of colour n (before_of l j) (line.segment_of l j)
      ≡ over_at l.size (line.own l colour) (line.other l colour) n j
  unfolding over_of over_at held
  over-of n j h = pair_of (segment_holds colour n) (held n) (holds_of n) j h

  -- a row of the kind stands at a window exactly where its two segments match
  pub matches-row : (kind : RowKind) (j : ℕ) → inside l.size j ≡ true
      → match_of colour kind (before_of l j) (line.segment_of l j)
      ≡ row_at (eqb colour 1) l.size (line.own l colour) (line.other l colour) kind j
  unfolding match_of row_at On scored
  matches-row Two j h = open_of_lem 2 j h
  matches-row Three j h = open_of_lem 3 j h
  matches-row Straight j h = open_of_lem 4 j h
  matches-row Sword j h = scores-of 3 j h
  matches-row Four j h = scores-of 4 j h
  matches-row Five j h = scores-of 5 j h
  matches-row Overlining j h = over-of 4 j h
  matches-row Overlined j h = over-of 5 j h
