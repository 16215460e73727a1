-- The five that a stone makes: exactly five stones for Black, five or more for White; told by the Fours before the stone; the same in all
-- eight views. Assumes nothing.
use mathlib.Core.Path.{◌≡◌, refl, ◌∙◌}
use mathlib.Core.Bool.{Bool, true, false, not, ◌&&◌, ◌||◌}
use mathlib.Core.List.{List}
use Prim.Native.Nat.{ℕ, ◌<◌}
use lib.Dec.{T, eqb}
use lib.ListN.{length, get_or}
use Rattle.rules.specs.Line.{Stones, inside, free, count, beside, dead, scores, holds, row_at}
use Rattle.rules.specs.Grid.{start_masks, starts_of, put, rows_through}
use Rattle.rules.specs.Forbidden.{some_row}
use Rattle.rules.specs.Fives.{makes_five}
use Rattle.rules.specs.Views.{turn, turn_cells}
use Rattle.rules.specs.declared.Player.{Player}
use Rattle.rules.specs.declared.RowKind.TheVariants.{Four, Five}
use Rattle.rules.proofs.Logic.{and_left, and_right}
use Rattle.rules.proofs.More.{some_row-same}
use Rattle.rules.proofs.Starts.{some-masks, start-low}
use Rattle.rules.proofs.Grown.{four-five}
use Rattle.rules.proofs.Eight.{Blind, kept-eq, row_kept, turned-put}
use Rattle.rules.proofs.Views.{turned-cells}

-- "Black's five is exactly five": of a Five of Black's no black stone stands before or after the five
pub black-five : (size : ℕ) (own other : Stones) (j : ℕ) → T (row_at true size own other Five j) → beside own j ≡ false
unfolding row_at scores dead
black-five size own other j t =
    alone (free other j) (beside own j)
    (and_right (inside size j) (not (not (free other j) || true && beside own j))
    (and_left (inside size j && not (not (free other j) || true && beside own j)) (eqb (count own j) 5) t))
  where
    alone : (f b : Bool) → T (not (not f || true && b)) → b ≡ false
    alone true true t = absurd t
    alone true false t = refl
    alone false b t = absurd t

-- "White's five or more": a Five of White's is any window of five white stones, whatever stands beside it
pub white-five : (size : ℕ) (own other : Stones) (j : ℕ) → row_at false size own other Five j ≡ holds size own other 5 j
unfolding row_at scores dead holds
white-five size own other j = alive (free other j)
  where
    alive : (f : Bool) → (inside size j && not (not f || false && beside own j) && eqb (count own j) 5)
        ≡ (inside size j && f && eqb (count own j) 5)
    alive true = refl
    alive false = refl

-- at an empty point the Fours through it before the stone are the Fives after it, so that they tell the five
pub five-told : (r : Player) (cells : List ℕ) (p : ℕ) → length cells ≡ 225 → p < 225 → get_or cells p 0 ≡ 0
    → {m : List ℕ} → m ≡ start_masks (rows_through r Four cells p) → {b : Bool} → b ≡ some_row (starts_of m) → b ≡ makes_five r cells p
unfolding makes_five
five-told r cells p long hp none e eb =
    some-masks (rows_through r Four cells p) (start-low r Four cells p) e eb
    ∙ some_row-same (rows_through r Four cells p) (rows_through r Five (put r cells p) p)
    (λ d j hd hj. four-five r cells p d long hp hd none j)

-- the eight views: the stone makes a five at the turned point of the turned board exactly where it does at the point
pub five-blind : (r : Player) → Blind (makes_five r)
unfolding makes_five
five-blind r v A B p hv t hp =
    kept-eq (λ cells p. some_row (rows_through r Five cells p)) (row_kept r Five) v (put r A p) (put r B (turn v p)) p hv
    (turned-put r p hv hp t) hp

pub five-view : (r : Player) (v : ℕ) (cells : List ℕ) (p : ℕ) → v < 8 → length cells ≡ 225 → p < 225
    → makes_five r (turn_cells v cells) (turn v p) ≡ makes_five r cells p
five-view r v cells p hv l hp = five-blind r v cells (turn_cells v cells) p hv (turned-cells v cells hv l) hp
