-- `lent::lists::lay` meets its contract: the first i bytes of the item are stored. Assumes nothing.
use mathlib.Core.Path.{◌≡◌, ap, ◌∙◌}
use mathlib.Core.List.{List}
use Prim.Native.Nat.{ℕ, ◌+◌}
use native.Mathlib.Omega.{arith}
use lib.ListN.{length, get_or, set, take}
use lib.Seq.{sets}
use Rattle.lent.proofs.Laws.{sets_more, sets_whole}
use Rattle.lent.proofs.lists.lay.Goals as goal

pub loop-i-preserved : goal.loop-i-preserved
loop-i-preserved c =
    let i = c.loop-i.i in
    let at : i ≡ 0 + i = omega arith in
    ap (λ (l : List ℕ). set l i (get_or c.args.item.now i 0)) c.loop-i.invariant
    ∙ ap (λ (k : ℕ). set (sets c.args.room.now 0 (take i c.args.item.now)) k (get_or c.args.item.now i 0)) at
    ∙ sets_more c.args.room.now c.args.item.now 0 i (omega arith)

pub returns : goal.returns
returns c =
    let i : c.loop-i.i ≡ length c.args.item.now = omega arith in
    c.loop-i.invariant
    ∙ ap (λ (k : ℕ). sets c.args.room.now 0 (take k c.args.item.now)) i
    ∙ sets_whole c.args.room.now c.args.item.now (omega arith)
