-- `text::bytes::stop` meets its contract: the bytes from i on are white space. Assumes nothing.
use mathlib.Core.Path.{◌≡◌, ap, sym, ◌∙◌}
use Prim.Native.Nat.{ℕ}
use native.Mathlib.Omega.{arith}
use lib.ListN.{length, take}
use Rattle.text.specs.Bytes.{trim_end}
use Rattle.text.proofs.Places.{end-hit, end_step, end_none}
use Rattle.text.proofs.bytes.stop.Goals as goal

pub loop-i-preserved : goal.loop-i-preserved
loop-i-preserved c = (
  omega arith,
  c.loop-i.invariant.1 ∙ end_step c.args.s.now c.loop-i.i (omega arith) (omega arith) (sym c.is_space.ensures ∙ c.if-is_space.true),
)

pub returns-else-is_space : goal.returns-else-is_space
returns-else-is_space c =
    sym (ap length c.loop-i.invariant.1 ∙ end-hit c.args.s.now c.loop-i.i (omega arith) (omega arith)
    (sym c.is_space.ensures ∙ c.if-is_space.false))

pub returns-after-loop-i : goal.returns-after-loop-i
returns-after-loop-i c =
    let s = c.args.s.now in
    let z : c.loop-i.i ≡ 0 = omega arith in
    z ∙ sym (ap length c.loop-i.invariant.1 ∙ ap (λ (k : ℕ). length (trim_end (take k s))) z ∙ end_none)
