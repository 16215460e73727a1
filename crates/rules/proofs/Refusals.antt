-- Refusals: what no refusal says of the tests behind it, and that an answer is told by its refusal and its value. Assumes nothing.
use mathlib.Core.Path.{◌≡◌, refl, sym, ap, ◌∙◌}
use mathlib.Core.Bool.{Bool, true, false, cond}
use Prim.Native.Nat.{ℕ, suc}
use native.Mathlib.Omega.{arith}
use lib.Dec.{T, eqb}
use borrow.Author.Tests.{eqb-true, eqb-false, eq-eqb, ne_eqb}
use Rattle.std.specs.Prelude.{Result, Ok, Err}
use Rattle.rules.specs.declared.refusal.Refusal.{Refusal}
use Rattle.rules.specs.Refusals.{unless, first}
use Rattle.rules.specs.Answers.{answer, checked, refusal_named}
use Rattle.rules.proofs.Logic.{no_true}

-- none of two is given where neither is
pub first-none : (a b : ℕ) → first a b ≡ 0 → (a ≡ 0) × (b ≡ 0)
unfolding first
first-none a b e = go (eqb a 0) refl e
  where
    go : (t : Bool) → eqb a 0 ≡ t → cond t b a ≡ 0 → (a ≡ 0) × (b ≡ 0)
    go true q z = (eqb-true a 0 q, z)
    go false q z = absurd (no_true (sym q ∙ ap (λ (n : ℕ). eqb n 0) z))

pub none_first : (a b : ℕ) → a ≡ 0 → b ≡ 0 → first a b ≡ 0
unfolding first
none_first a b p q = rw (p, q)

-- a refusal that is not given: its test passed
pub passed : (b : Bool) (n : ℕ) → unless b (suc n) ≡ 0 → T b
unfolding unless
passed true n e = tt
passed false n e = absurd (omega arith)

pub pass : (b : Bool) (n : ℕ) → T b → unless b n ≡ 0
unfolding unless
pass true n t = refl
pass false n t = absurd t

-- an answer looks at its value only where nothing is refused
pub given : {A B : Type 0} (f : A → B) (z : B) (refused : ℕ) (a b : A) → (refused ≡ 0 → a ≡ b)
    → cond (eqb refused 0) (f a) z ≡ cond (eqb refused 0) (f b) z
given f z refused a b h = go (eqb refused 0) refl
  where
    go : (t : Bool) → eqb refused 0 ≡ t → cond t (f a) z ≡ cond t (f b) z
    go true e = ap f (h (eqb-true refused 0 e))
    go false e = refl

-- an answer given back: its value, or what was refused; `told` is what the refusal means
module _ {B A : Type 0} (is : B → A) (no : ℕ → A) {refused told : ℕ} (v : B) (e : refused ≡ told) where
  pub value-given : {r : B} → refused ≡ 0 → r ≡ v → is r ≡ cond (eqb told 0) (is v) (no told)
  value-given z er = rw (eq-eqb told 0 (sym e ∙ z)) (ap is er)

  pub refusal-given : (refused ≡ 0 → ⊥) → no refused ≡ cond (eqb told 0) (is v) (no told)
  refusal-given n = rw (ne_eqb told 0 (λ z. n (e ∙ z))) (ap no e)

-- an answer that is no refusal: none is given, and it is the value
pub answered : {A : Type 0} {r : Result A Refusal} {w : A} (refused : ℕ) (v : A) → r ≡ answer refused v → r ≡ Ok w → (refused ≡ 0) × (w ≡ v)
unfolding answer
answered {r = r} {w = w} refused v e ok = go (eqb refused 0) refl (sym ok ∙ e)
  where
    go : (t : Bool) → eqb refused 0 ≡ t → Ok w ≡ cond t (Ok v) (Err (refusal_named refused)) → (refused ≡ 0) × (w ≡ v)
    go true q s = (eqb-true refused 0 q, cc)
    go false q s = cc

-- .. that is a refusal: one is given, and it is the one that is told
pub answered_err : {A : Type 0} {r : Result A Refusal} {x : Refusal} (refused : ℕ) (v : A) → r ≡ answer refused v → r ≡ Err x
    → (refused ≡ 0 → ⊥) × (x ≡ refusal_named refused)
unfolding answer
answered_err {r = r} {x = x} refused v e err = go (eqb refused 0) refl (sym err ∙ e)
  where
    go : (t : Bool) → eqb refused 0 ≡ t → Err x ≡ cond t (Ok v) (Err (refusal_named refused)) → (refused ≡ 0 → ⊥) × (x ≡ refusal_named refused)
    go true q s = cc
    go false q s = (eqb-false refused 0 q, cc)

-- a test that was passed
pub unrefused : {r : Result Unit Refusal} {w : Unit} (refused : ℕ) → r ≡ checked refused → r ≡ Ok w → refused ≡ 0
unrefused refused e ok = (answered refused tt e ok).0
