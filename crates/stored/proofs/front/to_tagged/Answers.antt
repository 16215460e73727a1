-- `stored::front::to_tagged` meets its contract: the record is laid out, then handed out. Assumes nothing.
use mathlib.Core.Path.{ap, sym, ◌∙◌}
use lib.ListN.{length}
use Rattle.rules.proofs.Refusals.{unrefused}
use Rattle.cells.proofs.Kept.{handed_codes}
use Rattle.stored.proofs.Records.{tagged-few}
use Rattle.stored.proofs.front.to_tagged.Goals as goal

pub record_of-made-requires : goal.record_of-made-requires
record_of-made-requires c =
    let a = c.args in
    tagged-few a.view a.moves.now (unrefused _ c.tagged_refusal.ensures c.in_ok-tagged_refusal.was)

pub returns : goal.returns
returns c =
    let listed = c.as_slice.ensures.value in
    handed_codes _ _ _ (unrefused _ c.tagged_refusal.ensures c.in_ok-tagged_refusal.was) (listed ∙ c.record_of-made.ensures)
    (c.len.ensures.value ∙ sym (ap length listed)) c.hand_out.ensures
