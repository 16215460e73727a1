-- `grid::shown::is_sound_on` meets its contract: lines that are the same are told by `==`. Assumes nothing.
use mathlib.Core.Path.{ap, ◌∙◌}
use mathlib.Core.List.{List}
use Prim.Native.Nat.{ℕ}
use Rattle.grid.specs.Lines.{is_sound, lines_of, same_list}
use Rattle.grid.proofs.Same.{pairs-same}
use Rattle.grid.proofs.shown.is_sound_on.Goals as goal

pub returns : goal.returns
unfolding is_sound
returns c =
    let l = c.args.lines.now in
    c.eq.ensures ∙ pairs-same l c.lines_of.result
    ∙ ap (λ (m : List ℕ). same_list l m) (c.lines_of.ensures ∙ ap lines_of c.cells_on.ensures)
