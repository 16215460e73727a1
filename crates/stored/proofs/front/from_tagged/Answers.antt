-- `stored::front::from_tagged` meets its contract: the moves are kept, then handed out as they stand in the record. Assumes nothing.
use mathlib.Core.Path.{ap, sym, ◌∙◌}
use native.Mathlib.Omega.{arith}
use mathlib.Core.List.{[]}
use lib.ListN.{length}
use Rattle.rules.proofs.Refusals.{unrefused}
use Rattle.lent.proofs.Laws.{kept_lem}
use Rattle.cells.proofs.Kept.{handed_codes}
use Rattle.stored.specs.Records.{stored_moves}
use Rattle.stored.proofs.Records.{back-few}
use Rattle.stored.proofs.front.from_tagged.Goals as goal

pub returns : goal.returns
returns c =
    let good = unrefused _ c.back_refusal.ensures c.in_ok-back_refusal.was in
    let few = back-few c.args.bytes.now good in
    let kept = c.keep.ensures ∙ rw (c.new-moves.ensures, c.stored_moves.ensures) (kept_lem 225 [] (stored_moves c.args.bytes.now) (omega (arith, few))) in
    let listed = c.as_slice.ensures.value ∙ kept in
    handed_codes _ _ _ good listed (c.len.ensures.value ∙ ap length (sym c.as_slice.ensures.value)) c.hand_out.ensures
