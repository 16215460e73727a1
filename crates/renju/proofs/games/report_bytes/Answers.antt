-- `renju::games::report_bytes` meets its contract: three bytes and the cells, kept one after the other. Assumes nothing.
use mathlib.Core.Path.{◌≡◌, refl, ◌∙◌}
use mathlib.Core.List.{[], ◌∷◌}
use lib.ListN.{length}
use borrow.Author.Rules.{rules}
use Rattle.renju.proofs.Handed.{bytes-kept}
use Rattle.renju.proofs.games.report_bytes.Goals as goal

pub returns : goal.returns
returns c =
    let long : length c.args.cells ≡ 225 = search rules in
    bytes-kept (c.fault_number.result ∷ c.reason_number.result ∷ c.winner_number.result ∷ []) c.args.cells refl long c.new-bytes.ensures
    c.keep.ensures c.keep-2.ensures ∙ rw (c.fault_number.ensures, c.reason_number.ensures, c.winner_number.ensures)
