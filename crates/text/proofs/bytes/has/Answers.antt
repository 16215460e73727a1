-- `text::bytes::has` meets its contract. Assumes nothing.
use mathlib.Core.Path.{◌≡◌, refl, ap, ◌∙◌}
use mathlib.Core.Bool.{◌||◌}
use mathlib.Core.List.{List, [], ◌∷◌}
use Prim.Native.Nat.{ℕ}
use lib.Dec.{eqb}
use Rattle.std.specs.List.{list_any}
use Rattle.text.specs.Bytes.{has}
use Rattle.text.proofs.bytes.has.Goals as goal

any : (d : ℕ) (s : List ℕ) → list_any (λ b. eqb b d) s ≡ has d s
unfolding has
any d [] = refl
any d (b ∷ s) = ap (λ t. eqb b d || t) (any d s)

pub returns : goal.returns
returns c = c.contains.ensures.value ∙ any c.args.d c.args.s.now
