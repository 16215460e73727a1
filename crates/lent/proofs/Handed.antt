-- A list that is handed out with a count, after its arguments were tested. Assumes nothing.
use mathlib.Core.Path.{◌≡◌, refl, ap, sym, ◌∙◌}
use mathlib.Core.Bool.{Bool, true, false}
use mathlib.Core.List.{List}
use Prim.Native.Nat.{ℕ, ◌/◌}
use lib.Dec.{eqb}
use lib.ListN.{length}
use Rattle.std.specs.Prelude.{Result, Ok, Err}
use Rattle.rules.specs.declared.refusal.Refusal.{Refusal}
use Rattle.rules.specs.Refusals.{first}
use Rattle.rules.specs.Answers.{answer, checked, refusal_named}
use Rattle.lent.specs.Lists.{list_refusal, list_out, counted}

module _ (size told : ℕ) (out a : List ℕ) {r : Result ℕ Refusal} where
  -- nothing was refused before
  pub handed : {list : List ℕ} {n : ℕ} {out' : List ℕ} → told ≡ 0 → list ≡ a → n ≡ length list / size
      → (r ≡ answer (list_refusal 0 out list) n) × (out' ≡ list_out 0 out list)
      → (r ≡ counted size told out a) × (out' ≡ list_out told out a)
  unfolding counted
  handed {list} {n} none same many k =
      (rw (none, sym same) (k.0 ∙ ap (answer (list_refusal 0 out list)) many), rw (none, sym same) k.1)

  -- it was refused, and the lent buffer is as it was
  pub turned_down : {x : Refusal} → checked told ≡ Err x → r ≡ Err x → (r ≡ counted size told out a) × (out ≡ list_out told out a)
  unfolding answer counted list_out list_refusal first
  turned_down {x} e k = go (eqb told 0) refl
    where
      go : (t : Bool) → eqb told 0 ≡ t → (r ≡ counted size told out a) × (out ≡ list_out told out a)
      go true q = let z : Ok tt ≡ Err x = rw q at e in cc
      go false q = let z : Err (refusal_named told) ≡ Err x = rw q at e in (k ∙ rw (q, q) (cc), rw (q, q))
