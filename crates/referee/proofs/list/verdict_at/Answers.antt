-- `referee::list::verdict_at` meets its contract. Assumes nothing.
use mathlib.Core.Path.{refl, sym, ◌∙◌}
use Prim.Native.Nat.{◌<◌}
use native.Mathlib.Omega.{arith}
use Rattle.rules.proofs.Logic.{true-T}
use Rattle.referee.proofs.Asked.{on-lines-of, lines-of-sound}
use Rattle.referee.proofs.Swept.{mark-none, marked-is, marked-free}
use Rattle.referee.proofs.list.verdict_at.Goals as goal

pub strict-requires : goal.strict-requires
strict-requires c =
    let hp : c.args.code < 225 = omega arith in
    lines-of-sound c.args.cells.now c.args.code c.requires.0 hp (c.requires.1 (true-T c.if-built.true))

pub returns-then-built : goal.returns-then-built
returns-then-built c =
    let hp : c.args.code < 225 = omega arith in (
      on-lines-of c.args.cells.now c.args.code c.requires.0 hp (c.requires.1 (true-T c.if-built.true)) c.strict.ensures.0,
      c.strict.ensures.1,
    )

pub asked_of-requires : goal.asked_of-requires
asked_of-requires c =
    let C = c.args.cells.now in
    let p = c.args.code in
    let hp : p < 225 = omega arith in
    let e = rw c.get.ensures.value at c.is_marked.ensures in
    let free = marked-free C p c.requires.0 hp (sym (marked-is C p hp c.requires.2 e) ∙ c.if-is_marked.true) in
    (c.requires.0, free, c.rows_of.ensures)

pub returns : goal.returns
returns c =
    let C = c.args.cells.now in
    let p = c.args.code in
    let hp : p < 225 = omega arith in
    let e = rw c.get.ensures.value at c.is_marked.ensures in
    (mark-none C c.requires.0.long p hp (sym (marked-is C p hp c.requires.2 e) ∙ c.if-is_marked.false), refl)
