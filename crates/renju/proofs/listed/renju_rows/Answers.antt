-- `renju::listed::renju_rows` meets its contract: refused, or asked of the board of the cells. Assumes nothing.
use Rattle.rules.specs.Numbers.{player_of, kind_of}
use Rattle.rules.specs.Grid.{rows_of}
use Rattle.lists.specs.Lists.{rows_refusal}
use Rattle.renju.proofs.Asked.{refused_list, asked_list}
use Rattle.renju.proofs.Named.{rows_named}
use Rattle.renju.proofs.listed.renju_rows.Goals as goal

pub returns-in-Err : goal.returns-in-Err
returns-in-Err c =
    let a = c.args in
    refused_list a.cells.now c.from_cells.ensures c.in-Err.is (λ b. rows_refusal b a.colour a.kind) 4 _ _ c.refused.ensures

pub returns-in-Ok : goal.returns-in-Ok
returns-in-Ok c =
    let a = c.args in
    asked_list a.cells.now c.from_cells.ensures c.in-Ok.is (λ b. rows_refusal b a.colour a.kind) 4 _ (rows_of (player_of a.colour) (kind_of a.kind)) (rows_named _ a.colour a.kind) c.rows.ensures c.word.ensures
