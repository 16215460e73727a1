-- `second::eye::first_gap` meets its contract: the cells before j + k all hold a stone. Assumes nothing.
use mathlib.Core.Path.{ap, sym, ◌∙◌}
use native.Mathlib.Omega.{arith}
use Rattle.rules.specs.Forbidden.{gap_from}
use Rattle.rules.specs.declared.Player.TheVariants.{Black}
use Rattle.second.specs.Walk.{own_along}
use Rattle.second.proofs.Counted.{gap_found, gap_last}
use Rattle.second.proofs.eye.first_gap.Goals as goal

pub returns-then-not-has_stone : goal.returns-then-not-has_stone
returns-then-not-has_stone c =
    let a = c.args in
    gap_found (own_along Black a.board.now a.d a.code) c.get-j.result c.loop-k.k c.loop-k-test.true c.loop-k.invariant
    (sym c.has_stone.ensures ∙ c.if-not-has_stone.true) ∙ ap (gap_from (own_along Black a.board.now a.d a.code)) c.get-j.ensures.value

pub returns : goal.returns
returns c =
    let a = c.args in
    gap_last (own_along Black a.board.now a.d a.code) c.get-j.result (λ m h. c.loop-k.invariant m (omega arith))
    ∙ ap (gap_from (own_along Black a.board.now a.d a.code)) c.get-j.ensures.value
