-- Numbers made into bounded ones: what was made is the number, and it is below the bound. Assumes nothing.
use mathlib.Core.Path.{◌≡◌, refl, ap, sym, subst, ◌∙◌}
use mathlib.Core.Bool.{Bool, true, false, cond}
use Prim.Native.Nat.{ℕ, ◌<◌, ◌≤◌}
use lib.Dec.{ltb}
use borrow.Author.Tests.{ltb-false, lt-ltb}
use Rattle.std.specs.Option.{IsSome}
use Rattle.std.specs.Prelude.{Option, Some, None}

chosen : (b : Bool) {p v : ℕ} → cond b (Some p) None ≡ Some v → v ≡ p
chosen true e = cc
chosen false e = cc

passed : (b : Bool) (p : ℕ) → cond b (Some p) None ≡ None → b ≡ false
passed true p e = cc
passed false p e = refl

-- the number itself
pub made : (n p : ℕ) {r : Option ℕ} {v : ℕ} → r ≡ cond (ltb p n) (Some p) None → r ≡ Some v → v ≡ p
made n p e is = chosen (ltb p n) (sym e ∙ is)

-- one is made of a number below the bound
pub can_make : (n p : ℕ) {r : Option ℕ} → r ≡ cond (ltb p n) (Some p) None → p < n → IsSome r
can_make n p e h = subst IsSome (sym (e ∙ ap (λ (b : Bool). cond b (Some p) None) (lt-ltb p n h))) refl

-- none is made of one that is not below the bound
pub not_made : (n p : ℕ) {r : Option ℕ} → r ≡ cond (ltb p n) (Some p) None → r ≡ None → n ≤ p
not_made n p e is = ltb-false p n (passed (ltb p n) p (sym e ∙ is))
