-- Numbers made into bounded ones: what is made is the number, and it is made of one below the bound; and an answer that is not refused.
-- Assumes nothing.
use mathlib.Core.Path.{◌≡◌, refl, sym, ◌∙◌}
use mathlib.Core.Bool.{Bool, true, false, cond}
use Prim.Native.Nat.{ℕ, ◌<◌}
use lib.Dec.{ltb}
use borrow.Author.Tests.{lt-ltb}
use Rattle.std.specs.Prelude.{Option, Some, None, IsSome, Result, Ok}
use Rattle.rules.specs.declared.refusal.Refusal.{Refusal}
use Rattle.rules.specs.Answers.{answer}

chosen : (b : Bool) {p v : ℕ} → cond b (Some p) None ≡ Some v → v ≡ p
chosen true e = cc
chosen false e = cc

pub made : (n p : ℕ) {r : Option ℕ} {v : ℕ} → r ≡ cond (ltb p n) (Some p) None → r ≡ Some v → v ≡ p
made n p e is = chosen (ltb p n) (sym e ∙ is)

pub can-make : (n p : ℕ) {r : Option ℕ} → r ≡ cond (ltb p n) (Some p) None → p < n → IsSome r
can-make n p e h = rw (e, lt-ltb p n h) refl

pub told_at : {A : Type 0} (refused : ℕ) {v w : A} → refused ≡ 0 → v ≡ w → ◌≡◌ {A = Result A Refusal} (Ok v) (answer refused w)
unfolding answer
told_at refused z e = rw (z, e) refl
