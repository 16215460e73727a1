-- `display::line_text::line_into` meets its contract: after i turns the first i cells are written. Assumes nothing.
use mathlib.Core.Path.{◌≡◌, ap, sym, ◌∙◌}
use mathlib.Core.List.{[], ◌∷◌, ◌++◌, append-nil}
use Prim.Native.Nat.{ℕ, ◌*◌}
use native.Mathlib.Omega.{arith}
use lib.ListN.{length, length-append}
use borrow.Author.Rules.{rules}
use Rattle.rules.specs.Tools.{gather}
use Rattle.lent.proofs.Laws.{gather_none}
use Rattle.text.specs.Bytes.{blank, dot}
use Rattle.display.specs.Texts.{letter_or, cell_text, line_text, stepped}
use Rattle.display.proofs.Sizes.{line-length}
use Rattle.display.proofs.Turns.{behind_put}
use Rattle.display.proofs.line_text.line_into.Goals as goal

pub loop-i-init : goal.loop-i-init
loop-i-init g c = rw (gather_none) (sym (append-nil c.args.text.now))

pub put-requires : goal.put-requires
unfolding line_text
put-requires g c =
    let a = c.args in
    let i = c.loop-i.i in
    let f = stepped a.cells.now a.first a.step in
    let e = ap length c.loop-i.invariant ∙ length-append a.text.now (gather i (cell_text f)) in
    let two : length (gather i (cell_text f)) ≡ i * 2 = line-length i f in
    (search rules, omega (arith, c.requires))

pub loop-i-preserved : goal.loop-i-preserved
loop-i-preserved g c =
    let a = c.args in
    let cell = c.letter.ensures ∙ ap (letter_or dot) c.value_at-value.ensures in
    behind_put a.text.now (cell_text (stepped a.cells.now a.first a.step)) c.loop-i.i c.loop-i.invariant
    (c.put.ensures ∙ ap (λ (x : ℕ). c.loop-i.text ++ blank ∷ x ∷ []) cell)

pub returns : goal.returns
unfolding line_text
returns g c =
    let e : c.loop-i.i ≡ c.args.size = omega arith in
    rw e at c.loop-i.invariant
