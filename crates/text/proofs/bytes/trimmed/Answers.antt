-- `text::bytes::trimmed` meets its contract. Assumes nothing.
use mathlib.Core.Path.{ap, sym, ◌∙◌}
use Prim.Native.Nat.{ℕ}
use native.Mathlib.Omega.{arith}
use lib.ListN.{length, take, drop, length-take, length-drop}
use Rattle.text.specs.Bytes.{trim, trim_end}
use Rattle.text.proofs.Places.{end_take, trim_start_lem}
use Rattle.text.proofs.bytes.trimmed.Goals as goal

pub returns-clause-value : goal.returns-clause-value
unfolding trim
returns-clause-value c =
    let s = c.args.s.now in
    let t = c.tail-t.result.now in
    c.head.ensures ∙ ap (λ (k : ℕ). take k t) c.stop.ensures ∙ sym (end_take t)
    ∙ ap trim_end (c.tail-t.ensures ∙ ap (λ (k : ℕ). drop k s) c.leading_space.ensures ∙ sym
    (trim_start_lem s))

pub returns-clause-short : goal.returns-clause-short
returns-clause-short c =
    let a = ap length c.head.ensures in
    let b = ap length c.tail-t.ensures in
    omega (arith, a, b, length-take c.stop.result c.tail-t.result.now, length-drop c.leading_space.result c.args.s.now)
