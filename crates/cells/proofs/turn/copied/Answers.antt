-- `cells::turn::copied` meets its contract: as many bytes as there are, no more than 225, in front of zeros. Assumes nothing.
use mathlib.Core.Path.{◌≡◌, ap, ap₂, ◌∙◌}
use mathlib.Core.List.{List, ◌++◌}
use Prim.Native.Nat.{ℕ, min}
use native.Mathlib.Omega.{arith}
use lib.ListN.{length, take, drop, length-take, replicate}
use Rattle.lent.specs.Lists.{zeros, laid}
use Rattle.lent.proofs.Laws.{take-least}
use Rattle.cells.proofs.turn.copied.Goals as goal

pub returns : goal.returns
unfolding laid zeros
returns c =
    let l = c.args.cells.now in
    let n = c.min-n.result in
    let few : n ≡ min 225 (length l) = omega (arith, c.min-n.ensures) in
    let many : n ≡ length (take 225 l) = omega (arith, few, length-take 225 l) in
    ap₂ (λ (s : List ℕ) (k : ℕ). s ++ drop k (replicate 225 0)) (c.copy_from_slice.ensures.after ∙ ap (λ (k : ℕ). take k l) few ∙ take-least 225 l) many
