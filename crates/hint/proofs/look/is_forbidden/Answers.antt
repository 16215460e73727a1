-- `hint::look::is_forbidden` meets its contract: section 5's tests in their order. Assumes nothing.
use mathlib.Core.Path.{sym, ◌∙◌}
use Prim.Native.Nat.{◌<◌}
use native.Mathlib.Omega.{arith}
use Rattle.grid.specs.Lines.{cells_of}
use Rattle.grid.proofs.Lines.{length-cells_of}
use Rattle.hint.proofs.Asked.{white-free, five-free, over-kind, fours-kind, asked-kind, none-kind, empty-zero}
use Rattle.hint.proofs.look.is_forbidden.Goals.{then-is_white-via-then-is_white, then-is_white-via-else-is_white+then-some_row}
use Rattle.hint.proofs.look.is_forbidden.Goals.{then-some_row-2-via-then-some_row-2, then-some_row-2-via-else-some_row-2+then-more_than_one}
use Rattle.hint.proofs.look.is_forbidden.Goals as goal

pub returns-then-is_white : goal.returns-then-is_white
returns-then-is_white c =
    let hp : c.args.code < 225 = omega arith in
    elim c.then-is_white.branch [
      | then-is_white-via-then-is_white w ↦
          white-free c.args.player (cells_of c.args.lines.now) c.args.code (sym c.is_white.ensures ∙ w.if-is_white.true)
      | then-is_white-via-else-is_white+then-some_row w ↦
          five-free c.args.player (cells_of c.args.lines.now) c.args.code (length-cells_of c.args.lines.now) hp
          (empty-zero c.requires.1) (sym c.is_white.ensures ∙ w.if-is_white.false) c.requires.2 w.some_row.ensures w.if-some_row.true
    ]

pub returns-then-some_row-2 : goal.returns-then-some_row-2
returns-then-some_row-2 c =
    let hp : c.args.code < 225 = omega arith in
    elim c.then-some_row-2.branch [
      | then-some_row-2-via-then-some_row-2 w ↦
          over-kind c.args.player (cells_of c.args.lines.now) c.args.code (length-cells_of c.args.lines.now) hp
          (empty-zero c.requires.1) (sym c.is_white.ensures ∙ c.if-is_white.false) c.requires.2 c.some_row.ensures
          c.if-some_row.false c.some_row-2.ensures w.if-some_row-2.true
      | then-some_row-2-via-else-some_row-2+then-more_than_one w ↦
          fours-kind c.args.player (cells_of c.args.lines.now) c.args.code (length-cells_of c.args.lines.now) hp
          (empty-zero c.requires.1) (sym c.is_white.ensures ∙ c.if-is_white.false) c.requires.2 c.some_row.ensures
          c.if-some_row.false c.some_row-2.ensures w.if-some_row-2.false w.more_than_one.ensures w.if-more_than_one.true
    ]

pub returns-then-more_than_one-2 : goal.returns-then-more_than_one-2
returns-then-more_than_one-2 c =
    let hp : c.args.code < 225 = omega arith in
    asked-kind c.args.player (cells_of c.args.lines.now) c.args.code (length-cells_of c.args.lines.now) hp
    (empty-zero c.requires.1) (sym c.is_white.ensures ∙ c.if-is_white.false) c.requires.2 c.some_row.ensures
    c.if-some_row.false c.some_row-2.ensures c.if-some_row-2.false c.is_kind_on.ensures

pub returns-else-more_than_one-2 : goal.returns-else-more_than_one-2
returns-else-more_than_one-2 c =
    let hp : c.args.code < 225 = omega arith in
    c.if-more_than_one-2.false
    ∙ none-kind c.args.player (cells_of c.args.lines.now) c.args.code (length-cells_of c.args.lines.now) hp
    (empty-zero c.requires.1) (sym c.is_white.ensures ∙ c.if-is_white.false) c.requires.2 c.some_row.ensures
    c.if-some_row.false c.some_row-2.ensures c.if-some_row-2.false
    c.more_than_one.ensures c.if-more_than_one.false c.more_than_one-2.ensures c.if-more_than_one-2.false
