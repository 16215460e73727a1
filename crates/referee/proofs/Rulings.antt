-- Where a stone may be tried for a verdict: by the cell at the point, by the tests that need no trial. Assumes nothing.
use mathlib.Core.Path.{◌≡◌, refl, ap, ap₂, sym, ◌∙◌}
use mathlib.Core.Bool.{Bool, true, false, ◌&&◌, ◌||◌, cond}
use mathlib.Core.List.{List}
use Prim.Native.Nat.{ℕ}
use lib.ListN.{get_or}
use Rattle.std.specs.Prelude.{Option, Some, None}
use Rattle.rules.specs.Grid.{is_empty}
use Rattle.rules.specs.Forbidden.{more_twos, may_forbid, is_overline, is_double_four, strict_of}
use Rattle.rules.specs.declared.Verdict.{Verdict}
use Rattle.rules.proofs.Logic.{no_true}
use Rattle.lent.specs.Lists.{zeros}
use Rattle.grid.specs.Lines.{lines_of}
use Rattle.referee.specs.Answers.{is_tried, ruling_of}
use Rattle.referee.specs.declared.ruling.Ruling.{Ruling}

module _ (cells : List ℕ) (p : ℕ) where
  pub taken-untried : is_empty (get_or cells p 0) ≡ false → false ≡ is_tried cells p
  unfolding is_tried
  taken-untried e = rw e refl

  -- where no kind may apply, not more than one Two goes through p
  pub quiet-untried : may_forbid cells p ≡ false → false ≡ is_tried cells p
  unfolding may_forbid is_tried
  quiet-untried q = go (is_overline cells p) (is_double_four cells p) (more_twos cells p) (is_empty (get_or cells p 0)) q
    where
      go : (o f t e : Bool) → (o || f || t) ≡ false → false ≡ (e && t)
      go true f t e q = absurd (no_true (sym q))
      go false true t e q = absurd (no_true (sym q))
      go false false true e q = absurd (no_true (sym q))
      go false false false true q = refl
      go false false false false q = refl

  pub free-tried : get_or cells p 0 ≡ 0 → {b : Bool} → b ≡ more_twos cells p → b ≡ is_tried cells p
  unfolding is_tried
  free-tried z e = e ∙ rw z refl

  -- the ruling, where a stone may have to be tried, and where not
  pub ruled : {tried : Bool} → tried ≡ is_tried cells p → {a : Ruling} → a.verdict ≡ strict_of cells p
      → a.lines ≡ cond tried (Some (lines_of cells)) None → a ≡ ruling_of cells p
  unfolding ruling_of
  ruled t {a} ev el =
      ap₂ {A = Verdict} {B = Option (List ℕ)} (λ v l. record { verdict = v; lines = l }) ev (el ∙ ap (λ (b : Bool). cond b (Some (lines_of cells)) None) t)

-- lines that were wanted are handed on
pub handed : (cells : List ℕ) (wanted : Bool) {l : List ℕ} → l ≡ cond wanted (lines_of cells) (zeros 144)
    → cond {A = Option (List ℕ)} wanted (Some l) None ≡ cond wanted (Some (lines_of cells)) None
handed cells true e = ap (λ (x : List ℕ). Some x) e
handed cells false e = refl
