-- `hint::tries::mark_point` meets its contract. Assumes nothing.
use mathlib.Core.Path.{◌≡◌, ap, sym, subst}
use Prim.Native.Nat.{ℕ, ◌/◌}
use native.Mathlib.Omega.{arith}
use lib.Dec.{T}
use lib.ListN.{set, length}
use mathlib.Core.List.{List}
use Rattle.hint.specs.Seen.{marked, Kept}
use Rattle.hint.proofs.Marks.{mark-kept, mark-here}
use Rattle.hint.proofs.tries.mark_point.Goals as goal

pub returns-then-x-lt15 : goal.returns-then-x-lt15
returns-then-x-lt15 c =
    let m = c.args.tries.now in
    let p = c.args.code in
    let long : length m ≡ 15 = omega arith in
    let e = ap (set m (p / 15)) c.set_bit.ensures in (
      subst (Kept m) (sym e) (mark-kept m p long c.if-x-lt15.true),
      λ t h. subst (λ (x : List ℕ). T (marked x p)) (sym e) (mark-here m p long c.if-x-lt15.true),
    )
