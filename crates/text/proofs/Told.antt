-- Laws of an answer: what it says where it is given, and where it is refused. Assumes nothing.
use mathlib.Core.Path.{◌≡◌, refl, ap, sym, ◌∙◌}
use mathlib.Core.Bool.{Bool, true, false, cond}
use Prim.Native.Nat.{ℕ}
use lib.Dec.{eqb}
use borrow.Author.Tests.{eqb-true, eqb-false, eq-eqb, ne_eqb}
use Rattle.std.specs.Prelude.{Result, Ok, Err}
use Rattle.rules.specs.Refusals.{first}
use Rattle.rules.specs.Answers.{answer, refusal_named, refused_by}
use Rattle.rules.specs.declared.refusal.Refusal.{Refusal}
use Rattle.rules.proofs.Refusals.{given}

module _ {A : Type 0} (n : ℕ) (v : A) where
  pub told_ok : (w : A) → ◌≡◌ {A = Result A Refusal} (Ok w) (answer n v) → (n ≡ 0) × (w ≡ v)
  unfolding answer
  told_ok w e = go (eqb n 0) refl e
    where
      go : (t : Bool) → eqb n 0 ≡ t → ◌≡◌ {A = Result A Refusal} (Ok w) (cond t (Ok v) (Err (refusal_named n))) → (n ≡ 0) × (w ≡ v)
      go true z p = (eqb-true n 0 z, cc)
      go false z p = absurd cc

  pub told_err : (r : Refusal) → ◌≡◌ {A = Result A Refusal} (Err r) (answer n v) → (n ≡ 0 → ⊥) × (r ≡ refusal_named n)
  unfolding answer
  told_err r e = go (eqb n 0) refl e
    where
      go : (t : Bool) → eqb n 0 ≡ t → ◌≡◌ {A = Result A Refusal} (Err r) (cond t (Ok v) (Err (refusal_named n))) → (n ≡ 0 → ⊥)
          × (r ≡ refusal_named n)
      go true z p = absurd cc
      go false z p = (eqb-false n 0 z, cc)

  -- given, and refused
  pub tells_ok : n ≡ 0 → ◌≡◌ {A = Result A Refusal} (Ok v) (answer n v)
  unfolding answer
  tells_ok z = rw (eq-eqb n 0 z)

  pub tells_err : (n ≡ 0 → ⊥) → ◌≡◌ {A = Result A Refusal} (Err (refusal_named n)) (answer n v)
  unfolding answer
  tells_err z = rw (ne_eqb n 0 z)

-- an answer looks at its value only where nothing is refused
pub told_same : {A : Type 0} (n m : ℕ) (v w : A) → n ≡ m → (n ≡ 0 → v ≡ w) → answer n v ≡ answer m w
unfolding answer
told_same n m v w e h = given Ok (Err (refusal_named n)) n v w h ∙ ap (λ (k : ℕ). answer k w) e

-- the second of three tests is the first that is not passed
pub told_second : {A : Type 0} (a b e : ℕ) (v : A) (r : Refusal) → a ≡ 0 → (b ≡ 0 → ⊥) → r ≡ refusal_named b
    → ◌≡◌ {A = Result A Refusal} (Err r) (answer (first (first a b) e) v)
unfolding first
told_second a b e v r za nb er = rw (za, ne_eqb b 0 nb, er) (tells_err b v nb)

-- a test that is refused did not pass, and one that is not did
pub test_err : (b : Bool) (n r : Refusal) → ◌≡◌ {A = Result Unit Refusal} (Err r) (refused_by b n) → (b ≡ false) × (r ≡ n)
test_err true n r e = absurd cc
test_err false n r e = (refl, cc)

pub test_ok : (b : Bool) (n : Refusal) → ◌≡◌ {A = Result Unit Refusal} (Ok tt) (refused_by b n) → b ≡ true
test_ok true n e = refl
test_ok false n e = absurd cc
