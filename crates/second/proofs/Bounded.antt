-- A number made one of a type that bounds it (`Below::new`, then `unwrap`), where it is below the bound. Assumes nothing.
use mathlib.Core.Path.{◌≡◌, refl, sym, ◌∙◌}
use mathlib.Core.Bool.{cond}
use Prim.Native.Nat.{ℕ, ◌<◌}
use lib.Dec.{ltb}
use borrow.Author.Tests.{lt-ltb}
use Rattle.std.specs.Prelude.{Option, Some, None, IsSome}
use Rattle.std.proofs.lemmas.Option.{cond_some}

module _ (n m : ℕ) {r : Option ℕ} (e : r ≡ cond (ltb m n) (Some m) None) where
  pub made : m < n → IsSome r
  made h = rw (e, lt-ltb m n h) refl

  -- it is still that number
  pub made-is : {w : ℕ} → r ≡ Some w → w ≡ m
  made-is u = sym (cond_some _ m _ (sym e ∙ u)).1
