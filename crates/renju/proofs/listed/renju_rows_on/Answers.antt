-- `renju::listed::renju_rows_on` meets its contract: refused, or asked of the board of the cells. Assumes nothing.
use mathlib.Core.List.{List}
use Prim.Native.Nat.{ℕ}
use Rattle.rules.specs.Numbers.{player_of, kind_of}
use Rattle.rules.specs.Grid.{rows_on_point}
use Rattle.board.specs.Boards.{rows_on_refusal}
use Rattle.renju.proofs.Asked.{refused_list, asked_list}
use Rattle.renju.proofs.Named.{rows_on_named}
use Rattle.renju.proofs.listed.renju_rows_on.Goals as goal

pub returns-in-Err : goal.returns-in-Err
returns-in-Err c =
    let a = c.args in
    refused_list a.cells.now c.from_cells.ensures c.in-Err.is (λ b. rows_on_refusal b a.code a.colour a.kind) 4 _ _ c.refused.ensures

pub returns-in-Ok : goal.returns-in-Ok
returns-in-Ok c =
    let a = c.args in
    asked_list a.cells.now c.from_cells.ensures c.in-Ok.is (λ b. rows_on_refusal b a.code a.colour a.kind) 4 _ (λ (x : List ℕ). rows_on_point (player_of a.colour) (kind_of a.kind) x a.code) (rows_on_named _ a.code a.colour a.kind) c.rows_on.ensures c.word.ensures
