-- `report::listing::board_listing` meets its contract: the list of the board has room, and its lines are written. Assumes nothing.
use mathlib.Core.Path.{ap, ap₂, ◌∙◌}
use mathlib.Core.List.{List, ◌++◌}
use Prim.Native.Nat.{ℕ}
use native.Mathlib.Omega.{arith}
use lib.ListN.{length}
use Rattle.rules.specs.Forbidden.{forbidden_list}
use Rattle.lent.specs.Lists.{zeros}
use Rattle.board.specs.Boards.{cells}
use Rattle.report.specs.Listing.{lines_text, count_text, list_text, forbidden_word}
use Rattle.report.proofs.Listed.{forbidden-short, listed-count, listed-lines}
use Rattle.report.proofs.Words.{lines_short}
use Rattle.report.proofs.listing.board_listing.Goals as goal

pub lines_into-requires : goal.lines_into-requires
unfolding zeros
lines_into-requires c =
    let list = forbidden_list (cells c.args.board) in
    let short = forbidden-short (cells c.args.board) in
    let m = c.unwrap_or-count.ensures ∙ listed-count _ list c.requires short c.forbidden_points.ensures.0 in
    (omega arith, c.new-text.ensures)

pub overflow_cast-count : goal.overflow_cast-count
unfolding zeros
overflow_cast-count c =
    let list = forbidden_list (cells c.args.board) in
    let short = forbidden-short (cells c.args.board) in
    let m = c.unwrap_or-count.ensures ∙ listed-count _ list c.requires short c.forbidden_points.ensures.0 in
    omega arith

pub count_into-requires : goal.count_into-requires
unfolding zeros lines_text
count_into-requires c =
    let list = forbidden_list (cells c.args.board) in
    let short = forbidden-short (cells c.args.board) in
    let m = c.unwrap_or-count.ensures ∙ listed-count _ list c.requires short c.forbidden_points.ensures.0 in
    let e = ap length c.lines_into.ensures in
    let room = lines_short c.forbidden_points.new.out c.unwrap_or-count.result in
    (omega arith, omega arith)

pub returns : goal.returns
unfolding zeros list_text forbidden_word
returns c =
    let list = forbidden_list (cells c.args.board) in
    let short = forbidden-short (cells c.args.board) in
    let m = c.unwrap_or-count.ensures ∙ listed-count _ list c.requires short c.forbidden_points.ensures.0 in
    let lines = c.lines_into.ensures ∙ ap (lines_text c.forbidden_points.new.out) m
    ∙ listed-lines _ list c.requires short _ c.forbidden_points.ensures.1 in
    c.count_into.ensures ∙ ap₂ {C = List ℕ} ◌++◌ lines (ap (count_text forbidden_word) m)
