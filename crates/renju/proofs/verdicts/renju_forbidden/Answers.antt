-- `renju::verdicts::renju_forbidden` meets its contract: refused, or asked of the board of the cells. Assumes nothing.
use mathlib.Core.List.{List}
use Prim.Native.Nat.{ℕ}
use Rattle.rules.specs.Forbidden.{plain_of}
use Rattle.referee.specs.Answers.{forbidden_refusal}
use Rattle.renju.proofs.Asked.{refused_word, asked_word}
use Rattle.renju.proofs.Named.{forbidden_named}
use Rattle.renju.proofs.verdicts.renju_forbidden.Goals as goal

pub returns-in-Err : goal.returns-in-Err
returns-in-Err c =
    let a = c.args in
    refused_word a.cells.now c.from_cells.ensures c.in-Err.is (λ b. forbidden_refusal b a.code) _ c.refused.ensures

pub returns-in-Ok : goal.returns-in-Ok
returns-in-Ok c =
    let a = c.args in
    asked_word a.cells.now c.from_cells.ensures c.in-Ok.is (λ b. forbidden_refusal b a.code) _
    (λ (x : List ℕ). plain_of x a.code) (forbidden_named _ a.code) c.forbidden.ensures c.word.ensures
