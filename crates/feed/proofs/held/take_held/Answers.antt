-- `feed::held::take_held` meets its contract: where nothing is refused, the message is next, and there is a byte behind what is held. Assumes
-- nothing.
use native.Mathlib.Omega.{arith}
use lib.ListN.{length}
use Rattle.rules.proofs.Refusals.{unrefused}
use Rattle.feed.proofs.Taking.{held_none}
use Rattle.feed.proofs.held.take_held.Goals as goal

pub bounds-held-count : goal.bounds-held-count
bounds-held-count c =
    let a = c.args in
    (held_none a.game a.count a.message (length a.held.now) (unrefused _ c.held_refusal.ensures c.in_ok-held_refusal.was)).1

pub overflow_add-result : goal.overflow_add-result
overflow_add-result c =
    let a = c.args in
    let (next, _) = held_none a.game a.count a.message (length a.held.now) (unrefused _ c.held_refusal.ensures c.in_ok-held_refusal.was) in
    record { fits = omega (arith, next.room) }
