-- `feed::moves::Moves::cells` meets its contract: the codes up to the size are the list. Assumes nothing.
use mathlib.Core.Path.{◌≡◌, sym, ap, ◌∙◌}
use mathlib.Core.List.{List}
use Prim.Native.Nat.{ℕ}
use native.Mathlib.Omega.{arith}
use lib.ListN.{length, take}
use borrow.Author.Rules.{rules}
use Rattle.rules.specs.Answers.{answer}
use Rattle.cells.specs.Cells.{codes_refusal, moves_cells}
use Rattle.feed.proofs.Lists.{size-least, list-size}
use Rattle.feed.proofs.moves.Moves.cells.Goals as goal

pub shared_ref_as_front-moves_cells : goal.shared_ref_as_front-moves_cells
shared_ref_as_front-moves_cells c =
    let l = c.args.self in
    let e : length l.codes ≡ 225 = search rules in
    omega (arith, c.size.ensures, size-least l)

pub returns : goal.returns
returns c =
    let l = c.args.self in
    c.moves_cells.ensures
    ∙ ap (λ (s : List ℕ). answer (codes_refusal s) (moves_cells s)) (ap (λ (n : ℕ). take n l.codes) c.size.ensures ∙ sym (list-size l))
