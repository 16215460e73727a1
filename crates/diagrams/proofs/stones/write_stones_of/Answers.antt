-- `diagrams::write_stones_of` meets its contract: 9, then 22, then the stones text, or 13. Assumes nothing.
use mathlib.Core.Path.{ap, sym, ◌∙◌}
use borrow.Author.Rules.{rules}
use lib.ListN.{length}
use Rattle.rules.specs.Answers.{checked}
use Rattle.rules.proofs.Refusals.{unrefused}
use Rattle.cells.specs.Cells.{codes_refusal, cells_refusal}
use Rattle.cells.proofs.Kept.{handed_codes, refused_codes}
use Rattle.diagrams.specs.Stones.{cells_sides_refusal, stones_text}
use Rattle.diagrams.proofs.Sides.{codes-good, codes-few, both-text, all_told}
use Rattle.diagrams.proofs.stones.write_stones_of.Goals as goal

pub returns-in_err-sides_refusal : goal.returns-in_err-sides_refusal
returns-in_err-sides_refusal c =
    let cells = c.args.cells.now in
    let sound = unrefused (cells_refusal cells) c.cells_refusal.ensures c.in_ok-cells_refusal.was in
    let told = all_told cells (c.as_slice.ensures.value ∙ c.points_with-blacks.ensures) (c.as_slice-2.ensures.value ∙ c.points_with-whites.ensures) sound in
    refused_codes (cells_sides_refusal cells) c.args.out.now (stones_text cells)
    (ap checked told ∙ sym c.sides_refusal.ensures ∙ c.in_err-sides_refusal.was) (search rules)

pub joined-text-requires : goal.joined-text-requires
joined-text-requires c =
    let cells = c.args.cells.now in
    let blacks = c.as_slice-3.ensures.value ∙ c.points_with-blacks.ensures in
    let whites = c.as_slice-4.ensures.value ∙ c.points_with-whites.ensures in (
      ap codes_refusal blacks ∙ codes-good cells 1,
      rw (blacks) (codes-few cells 1),
      ap codes_refusal whites ∙ codes-good cells 2,
      rw (whites) (codes-few cells 2),
    )

pub returns : goal.returns
returns c =
    let cells = c.args.cells.now in
    let sound = unrefused (cells_refusal cells) c.cells_refusal.ensures c.in_ok-cells_refusal.was in
    let told = all_told cells (c.as_slice.ensures.value ∙ c.points_with-blacks.ensures) (c.as_slice-2.ensures.value ∙ c.points_with-whites.ensures) sound in
    let none = told ∙ unrefused _ c.sides_refusal.ensures c.in_ok-sides_refusal.was in
    let text = c.joined-text.ensures
    ∙ both-text cells (c.as_slice-3.ensures.value ∙ c.points_with-blacks.ensures) (c.as_slice-4.ensures.value ∙ c.points_with-whites.ensures) in
    let listed = c.as_slice-5.ensures.value in
    handed_codes (cells_sides_refusal cells) c.args.out.now (stones_text cells) none (listed ∙ text)
    (c.len.ensures.value ∙ sym (ap length listed)) c.hand_out.ensures
