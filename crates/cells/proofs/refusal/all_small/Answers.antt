-- `cells::refusal::all_small` meets its contract: the greatest byte so far is at most the limit where each is. Assumes nothing.
use mathlib.Core.Path.{◌≡◌, ap, ◌∙◌}
use mathlib.Core.Bool.{Bool, true, false, ◌&&◌}
use mathlib.Core.Logic.{◌⊎◌, inl, inr}
use Prim.Native.Nat.{ℕ, max}
use native.Mathlib.Omega.{arith}
use lib.Dec.{leb}
use lib.ListN.{get_or}
use borrow.Author.Tests.{le-leb, leb-true, leb-false}
use Rattle.rules.specs.Depth.{larger}
use Rattle.rules.specs.Tools.{all_below}
use Rattle.rules.proofs.Logic.{decide, and-flip, all-step}
use Rattle.rules.proofs.Depth.{larger-leb}
use Rattle.cells.proofs.refusal.all_small.Goals as goal

max-larger : (a b : ℕ) → max a b ≡ larger a b
unfolding larger
max-larger a b = go (decide (leb a b))
  where
    go : (leb a b ≡ true) ⊎ (leb a b ≡ false) → max a b ≡ larger a b
    go (inl t) = let h = leb-true a b t in rw t (omega arith)
    go (inr t) = let h = leb-false a b t in rw t (omega arith)

pub loop-byte-init : goal.loop-byte-init
unfolding all_below
loop-byte-init c = le-leb 0 c.args.limit (omega arith)

pub loop-byte-preserved : goal.loop-byte-preserved
loop-byte-preserved c =
    let bytes = c.args.bytes.now in
    let i = c.loop-byte.byte-index in
    let limit = c.args.limit in
    let f : ℕ → Bool = λ p. leb (get_or bytes p 0) limit in
    let most : c.max-most.result ≡ max c.loop-byte.most (get_or bytes i 0) = omega (arith, c.max-most.ensures) in
    ap (λ (n : ℕ). leb n limit) (most ∙ max-larger c.loop-byte.most (get_or bytes i 0))
    ∙ larger-leb c.loop-byte.most (get_or bytes i 0) limit
    ∙ ap (λ (b : Bool). b && f i) c.loop-byte.invariant
    ∙ and-flip (all_below i f) (f i)
    ∙ all-step i f
