-- `records::bytes::has_form` meets its contract: every byte before i fits. Assumes nothing.
use mathlib.Core.Path.{◌≡◌, sym, ◌∙◌}
use mathlib.Core.Bool.{Bool, true, false}
use Prim.Native.Nat.{ℕ}
use native.Mathlib.Omega.{arith}
use lib.ListN.{length}
use borrow.Author.Tests.{le-leb, lt-leb}
use Rattle.rules.proofs.Logic.{all-fails}
use Rattle.records.specs.Records.{byte_at}
use Rattle.records.proofs.Laws.{below_none, below_more}
use Rattle.records.specs.Bytes.{form_fits, has_form}
use Rattle.records.proofs.bytes.has_form.Goals as goal

pub returns-then-s-form : goal.returns-then-s-form
unfolding has_form
returns-then-s-form c = rw (lt-leb (length c.args.form.now) (length c.args.s.now) (omega arith))

pub loop-i-init : goal.loop-i-init
loop-i-init c = sym (below_none _)

pub returns-then-not-fits : goal.returns-then-not-fits
unfolding has_form
returns-then-not-fits c =
    let a = c.args in
    let f : ℕ → Bool = (λ j. form_fits (byte_at a.s.now j) (byte_at a.form.now j)) in
    let e : f c.loop-i.i ≡ false = cc in
    rw (le-leb (length a.form.now) (length a.s.now) (omega arith)) (sym (all-fails (length a.s.now) f c.loop-i.i (omega arith) e))

pub loop-i-preserved : goal.loop-i-preserved
loop-i-preserved c =
    let a = c.args in
    let f : ℕ → Bool = (λ j. form_fits (byte_at a.s.now j) (byte_at a.form.now j)) in
    let e : f c.loop-i.i ≡ true = cc in
    sym (below_more f c.loop-i.i) ∙ rw (c.loop-i.invariant, e)

pub returns : goal.returns
unfolding has_form
returns c =
    let a = c.args in
    let e : c.loop-i.i ≡ length a.s.now = omega arith in
    rw (le-leb (length a.form.now) (length a.s.now) (omega arith)) (sym (rw e at c.loop-i.invariant))
