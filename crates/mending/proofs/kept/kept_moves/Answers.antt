-- `mending::kept::kept_moves` meets its contract: there is room for the moves. Assumes nothing.
use mathlib.Core.Path.{◌≡◌, ◌∙◌}
use mathlib.Core.List.{[]}
use native.Mathlib.Omega.{arith}
use Rattle.lent.proofs.Laws.{kept_lem}
use Rattle.mending.proofs.kept.kept_moves.Goals as goal

pub returns : goal.returns
returns c =
    let moves = c.args.moves.now in
    let put : c.keep.new.self ≡ moves
    = rw c.new-kept.ensures at c.keep.ensures ∙ kept_lem 225 [] moves (omega (arith, c.requires)) in
    rw (put, c.slip_behind.ensures)
