-- `renju::listed::renju_four_eyes_on` meets its contract: refused, or asked of the board of the cells. Assumes nothing.
use mathlib.Core.List.{List}
use Prim.Native.Nat.{ℕ}
use Rattle.rules.specs.Numbers.{player_of}
use Rattle.rules.specs.Grid.{four_eyes}
use Rattle.board.specs.Boards.{refusal_for}
use Rattle.renju.proofs.Asked.{refused_list, asked_list}
use Rattle.renju.proofs.Named.{for_named}
use Rattle.renju.proofs.listed.renju_four_eyes_on.Goals as goal

pub returns-in-Err : goal.returns-in-Err
returns-in-Err c =
    let a = c.args in
    refused_list a.cells.now c.from_cells.ensures c.in-Err.is (λ b. refusal_for b a.code a.colour) 1 _ _ c.refused.ensures

pub returns-in-Ok : goal.returns-in-Ok
returns-in-Ok c =
    let a = c.args in
    asked_list a.cells.now c.from_cells.ensures c.in-Ok.is (λ b. refusal_for b a.code a.colour) 1 _ (λ (x : List ℕ). four_eyes (player_of a.colour) x a.code) (for_named _ a.code a.colour) c.four_eyes_on.ensures c.word.ensures
