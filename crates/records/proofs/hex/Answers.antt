-- `records::hex` meets its contract: after k turns v is what the first k digits spell. Assumes nothing.
use mathlib.Core.Path.{◌≡◌, sym, ap, ◌∙◌}
use Prim.Native.Nat.{min}
use native.Mathlib.Omega.{arith}
use Rattle.records.specs.Records.{hex_spelled, hex_of}
use Rattle.records.proofs.Laws.{digit-below, spelled_none, spelled-more, spelled-room}
use Rattle.records.proofs.hex.Goals as goal

pub loop-k-init : goal.loop-k-init
loop-k-init c = sym (spelled_none _ _)

pub overflow_mul-v : goal.overflow_mul-v
overflow_mul-v c =
    let a = c.args in
    omega (arith, c.loop-k.invariant, spelled-room a.s.now a.at c.loop-k.k (omega arith))

pub overflow_add-v : goal.overflow_add-v
overflow_add-v c =
    let a = c.args in
    omega (arith, c.loop-k.invariant, spelled-room a.s.now a.at c.loop-k.k (omega arith), digit-below c.byte_after.result)

pub loop-k-preserved : goal.loop-k-preserved
loop-k-preserved c =
    let a = c.args in
    rw (c.loop-k.invariant, c.digit.ensures, c.byte_after.ensures) (spelled-more a.s.now a.at c.loop-k.k)

pub returns : goal.returns
unfolding hex_of
returns c =
    let a = c.args in
    let e : c.loop-k.k ≡ min a.digits 4 = omega arith in
    c.loop-k.invariant ∙ ap (hex_spelled a.s.now a.at) e
