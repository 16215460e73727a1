-- The refusals of a question on a board: what none says, and each by its tests. Assumes nothing.
use mathlib.Core.Path.{◌≡◌, refl, ◌∙◌}
use mathlib.Core.Bool.{Bool, true, false}
use Prim.Native.Nat.{ℕ, ◌<◌}
use lib.Dec.{eqb}
use Rattle.std.specs.Prelude.{Result}
use lib.ListN.{get_or}
use borrow.Author.Tests.{eqb-true}
use Rattle.rules.specs.Answers.{answer, checked, refused_by}
use Rattle.rules.specs.Refusals.{occupied, first, unless}
use Rattle.rules.specs.declared.refusal.Refusal.{Refusal}
use Rattle.rules.specs.declared.refusal.Refusal.TheVariants as refusal
use Rattle.rules.specs.Grid.{is_empty}
use Rattle.rules.proofs.Logic.{T_true}
use Rattle.rules.proofs.Refusals.{first-none, passed}
use Rattle.grid.specs.Lines.{cell_of, Sound}
use Rattle.grid.proofs.Lines.{empty-cell}
use Rattle.board.specs.declared.board.Board.{Board}
use Rattle.board.specs.Boards.{cells, refusal_at}
use Rattle.board.proofs.Given.{at_in}
use Rattle.referee.specs.Answers.{forbidden_refusal}
use Rattle.referee.proofs.Asked.{free-is}

module _ (b : Board) (p : ℕ) where
  pub forbidden-in : forbidden_refusal b p ≡ 0 → Sound b.lines × (p < 225) × (get_or (cells b) p 0 ≡ 0)
  unfolding forbidden_refusal
  forbidden-in e =
      let q = first-none (refusal_at b p) (unless (is_empty (get_or (cells b) p 0)) 11) e in
      let (s, hp) = at_in b p q.0 in
      (s, hp, eqb-true (get_or (cells b) p 0) 0 (empty-cell b.lines p hp ∙ T_true (passed (is_empty (get_or (cells b) p 0)) 10 q.1)))

  -- .. then by what stands there
  pub refused-taken : {r : Result Unit Refusal} {v : ℕ} → refusal_at b p ≡ 0 → v ≡ cell_of b.lines p → r ≡ refused_by (eqb v 0) refusal.Occupied
      → r ≡ checked (forbidden_refusal b p)
  unfolding forbidden_refusal first unless answer
  refused-taken {v = v} z ev er =
      let (s, hp) = at_in b p z in
      er ∙ rw (z, free-is b.lines p hp ev) (go (eqb v 0))
    where
      go : (t : Bool) → refused_by t refusal.Occupied ≡ checked (unless t occupied)
      go true = refl
      go false = refl
