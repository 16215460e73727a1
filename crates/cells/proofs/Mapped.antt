-- Any sequence of calls on 225 cells answers as a plain map, and each call is refused by its numbers alone, whatever came before. Assumes
-- nothing.
use mathlib.Core.Path.{◌≡◌, refl, ap, sym, subst, ◌∙◌}
use mathlib.Core.Bool.{true, false, cond}
use mathlib.Core.Logic.{◌⊎◌, inl, inr}
use mathlib.Core.List.{List, [], ◌∷◌}
use Prim.Native.Nat.{ℕ, ◌<◌}
use lib.Dec.{eqb}
use lib.ListN.{get_or}
use Rattle.rules.specs.Numbers.{player_of}
use Rattle.rules.specs.Refusals.{first}
use Rattle.rules.specs.Grid.{play, put, remove}
use Rattle.rules.proofs.Logic.{decide}
use Rattle.rules.proofs.Changes.{play-map}
use Rattle.cells.specs.Cells.{Cells, cells_refusal_at, cells_refusal_for}
use Rattle.cells.specs.Calls.{changed, after_put, after_remove}
use Rattle.cells.specs.Calls.{Call, call_put, call_remove, call_refusal, call_cells, calls_cells, numbers_refusal, change_of, taken, calls_map}
use Rattle.cells.proofs.Given.{cells-pass, play-ok}

-- ---- one call

-- on 225 cells of 0, 1 or 2 a call is refused by its numbers alone
call-refused : (call : Call) (cells : List ℕ) → Cells cells → call_refusal call cells ≡ numbers_refusal call
unfolding call_refusal numbers_refusal cells_refusal_for cells_refusal_at first
call-refused (call_put p colour) cells ok = rw (cells-pass cells ok)
call-refused (call_remove p) cells ok = rw (cells-pass cells ok)

-- what it does: its change, or nothing
pub call-does : (call : Call) (cells : List ℕ) → Cells cells
    → call_cells call cells ≡ cond (eqb (numbers_refusal call) 0) (play (change_of call ∷ []) cells) cells
unfolding call_refusal call_cells after_put after_remove changed play
call-does (call_put p colour) cells ok =
    ap (λ (n : ℕ). cond (eqb n 0) (put (player_of colour) cells p) cells) (call-refused (call_put p colour) cells ok)
call-does (call_remove p) cells ok =
    ap (λ (n : ℕ). cond (eqb n 0) (remove cells p) cells) (call-refused (call_remove p) cells ok)

-- ---- calls, one after the other

-- what they do: the changes of those that are not refused
pub calls-play : (calls : List Call) (cells : List ℕ) → Cells cells → calls_cells calls cells ≡ play (taken calls) cells
unfolding calls_cells taken play
calls-play [] cells ok = refl
calls-play (call ∷ calls) cells ok =
    ap (calls_cells calls) (call-does call cells ok) ∙ go (calls-play calls) call (decide (eqb (numbers_refusal call) 0))
  where
    go : ((cells : List ℕ) → Cells cells → calls_cells calls cells ≡ play (taken calls) cells) → (call : Call)
        → (eqb (numbers_refusal call) 0 ≡ true) ⊎ (eqb (numbers_refusal call) 0 ≡ false)
        → calls_cells calls (cond (eqb (numbers_refusal call) 0) (play (change_of call ∷ []) cells) cells)
        ≡ play (cond (eqb (numbers_refusal call) 0) (change_of call ∷ taken calls) (taken calls)) cells
    go more (call_put p colour) (inl t) =
        rw t (more (put (player_of colour) cells p) (play-ok (change_of (call_put p colour) ∷ []) cells ok))
    go more (call_remove p) (inl t) = rw t (more (remove cells p) (play-ok (change_of (call_remove p) ∷ []) cells ok))
    go more call (inr t) = rw t (more cells ok)

-- they leave 225 cells of 0, 1 or 2
pub calls-ok : (calls : List Call) (cells : List ℕ) → Cells cells → Cells (calls_cells calls cells)
calls-ok calls cells ok = subst Cells (sym (calls-play calls cells ok)) (play-ok (taken calls) cells ok)

-- "Any sequence of both answers as a plain map from 225 points to empty, black or white."
pub calls-map : (calls : List Call) (cells : List ℕ) → Cells cells → (q : ℕ) → q < 225
    → get_or (calls_cells calls cells) q 0 ≡ calls_map calls (λ p. get_or cells p 0) q
unfolding calls_map
calls-map calls cells ok q h =
    ap (λ (x : List ℕ). get_or x q 0) (calls-play calls cells ok) ∙ play-map (taken calls) cells ok.long q h

-- .. with their refusals: 8, then 12, by the numbers of the call alone, whatever came before
pub calls-refused : (calls : List Call) (call : Call) (cells : List ℕ) → Cells cells
    → call_refusal call (calls_cells calls cells) ≡ numbers_refusal call
calls-refused calls call cells ok = call-refused call (calls_cells calls cells) (calls-ok calls cells ok)
