-- `records::bytes::begins` meets its contract: the page is as wanted before i. Assumes nothing.
use mathlib.Core.Path.{◌≡◌, sym, ◌∙◌}
use mathlib.Core.Bool.{Bool}
use mathlib.Core.List.{List}
use Prim.Native.Nat.{ℕ, ◌<◌}
use native.Mathlib.Omega.{arith}
use lib.Dec.{eqb}
use lib.ListN.{length}
use Rattle.std.proofs.lemmas.Grind.{get_or_default_zero}
use borrow.Author.Tests.{eq-eqb, ne_eqb}
use Rattle.rules.proofs.Logic.{all-fails}
use Rattle.records.specs.Records.{byte_at}
use Rattle.records.proofs.Laws.{below_none, below_more}
use Rattle.records.specs.Bytes.{wanted_at}
use Rattle.records.proofs.bytes.begins.Goals as goal

pub loop-i-init : goal.loop-i-init
loop-i-init c = sym (below_none _)

-- within what is wanted
inside : (wanted : List ℕ) (i : ℕ) → i < length wanted → byte_at wanted i ≡ wanted_at wanted i
unfolding wanted_at
inside wanted i h = sym (get_or_default_zero wanted i 255 h)

pub returns-then-page-i : goal.returns-then-page-i
returns-then-page-i c =
    let a = c.args in
    let f : ℕ → Bool = (λ j. eqb (byte_at a.page.now j) (wanted_at a.wanted.now j)) in
    sym (all-fails a.n f c.loop-i.i (omega arith) (ne_eqb _ _ (λ e. c.if-page-i.true (e ∙ sym (inside a.wanted.now c.loop-i.i (omega arith))))))

pub loop-i-preserved : goal.loop-i-preserved
loop-i-preserved c =
    let a = c.args in
    let f : ℕ → Bool = (λ j. eqb (byte_at a.page.now j) (wanted_at a.wanted.now j)) in
    sym (below_more f c.loop-i.i) ∙ rw (c.loop-i.invariant, eq-eqb _ _ (c.if-page-i.false ∙ inside a.wanted.now c.loop-i.i (omega arith)))

pub returns : goal.returns
returns c =
    let e : c.loop-i.i ≡ c.args.n = omega arith in
    sym (rw e at c.loop-i.invariant)
