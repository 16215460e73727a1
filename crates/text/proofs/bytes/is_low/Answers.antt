-- `text::bytes::is_low` meets its contract: the bytes that were read are below 128. Assumes nothing.
use mathlib.Core.Path.{◌≡◌, sym, subst}
use Prim.Native.Nat.{ℕ}
use native.Mathlib.Omega.{arith}
use lib.Dec.{T, ltb, lt→ltb}
use lib.ListN.{length, get_or}
use borrow.Author.Tests.{le-ltb}
use Rattle.rules.specs.Tools.{all_below}
use Rattle.rules.proofs.Logic.{all_more, all-fails, T_true}
use Rattle.text.proofs.bytes.is_low.Goals as goal

pub loop-b-init : goal.loop-b-init
unfolding all_below
loop-b-init c = tt

pub returns-then-b-ge128 : goal.returns-then-b-ge128
returns-then-b-ge128 c =
    let s = c.args.s.now in
    sym (all-fails (length s) (λ n. ltb (get_or s n 0) 128) c.loop-b.b-index (omega arith)
    (le-ltb (get_or s c.loop-b.b-index 0) 128 c.if-b-ge128.true))

pub loop-b-preserved : goal.loop-b-preserved
loop-b-preserved c =
    let s = c.args.s.now in
    all_more c.loop-b.b-index (λ n. ltb (get_or s n 0) 128) c.loop-b.invariant (lt→ltb (get_or s c.loop-b.b-index 0) 128 c.if-b-ge128.false)

pub returns : goal.returns
returns c =
    let s = c.args.s.now in
    let e : c.loop-b.b-index ≡ length s = omega arith in
    sym (T_true (subst (λ (k : ℕ). T (all_below k (λ n. ltb (get_or s n 0) 128))) e c.loop-b.invariant))
