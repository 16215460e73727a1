-- `hint::attack::attack_at` meets its contract: the tests in their order, and the lines as they were. Assumes nothing.
use mathlib.Core.Path.{refl, sym, ◌∙◌}
use Rattle.rules.specs.declared.RowKind.TheVariants.{Sword, Four}
use Rattle.rules.proofs.Logic.{true-T}
use Rattle.grid.specs.Lines.{cells_of}
use Rattle.grid.proofs.Lines.{length-cells_of}
use Rattle.hint.proofs.Bounded.{made, can_make}
use Rattle.hint.proofs.Asked.{zero-empty}
use Rattle.hint.proofs.OnLines.{some-told, taken-there, free-there, put-sound, put-cells, put_back, empty-is}
use Rattle.hint.proofs.attack.attack_at.Goals.{then-not-some_row-via-then-not-some_row}
use Rattle.hint.proofs.attack.attack_at.Goals.{then-not-some_row-via-else-not-some_row+then-is_forbidden}
use Rattle.hint.proofs.Attacks.{only-told, taken-no, five-ends, no-sword-no, forbidden-no, several-ends, eye-lt, eye-free, answered}
use Rattle.hint.proofs.attack.attack_at.Goals as goal

pub returns-then-cell_on-ne0 : goal.returns-then-cell_on-ne0
returns-then-cell_on-ne0 c =
    let hp = rw c.get-p.ensures.value at c.get-p.ensures.below in
    let seen = rw c.get-p.ensures.value at c.cell_on.ensures in (
      taken-no c.args.side (cells_of c.args.lines.now) c.args.code
          (taken-there c.args.lines.now c.args.code hp seen c.if-cell_on-ne0.true),
      refl,
    )

pub returns-then-some_row : goal.returns-then-some_row
returns-then-some_row c =
    let hp = rw c.get-p.ensures.value at c.get-p.ensures.below in
    let seen = rw c.get-p.ensures.value at c.cell_on.ensures in
    let C = cells_of c.args.lines.now in
    let p = c.args.code in
    let z = free-there c.args.lines.now p hp seen c.if-cell_on-ne0.false in (
      five-ends c.args.side C p (length-cells_of c.args.lines.now) hp (zero-empty z) c.requires.1
          (sym (some-told c.args.side Four C p c.rows_for-rows.ensures.fours c.some_row.ensures) ∙ c.if-some_row.true),
      refl,
    )

pub returns-then-not-some_row : goal.returns-then-not-some_row
returns-then-not-some_row c =
    let hp = rw c.get-p.ensures.value at c.get-p.ensures.below in
    let seen = rw c.get-p.ensures.value at c.cell_on.ensures in
    let C = cells_of c.args.lines.now in
    let p = c.args.code in
    let z = free-there c.args.lines.now p hp seen c.if-cell_on-ne0.false in
    let no-five = sym (some-told c.args.side Four C p c.rows_for-rows.ensures.fours c.some_row.ensures) ∙ c.if-some_row.false in (
      elim c.then-not-some_row.branch [
        | then-not-some_row-via-then-not-some_row w ↦
            no-sword-no c.args.side C p (length-cells_of c.args.lines.now) hp (zero-empty z) c.requires.1 no-five
            (sym (some-told c.args.side Sword C p c.rows_for-rows.ensures.swords c.some_row-2.ensures) ∙ w.if-not-some_row.true)
        | then-not-some_row-via-else-not-some_row+then-is_forbidden w ↦
            forbidden-no c.args.side C p (length-cells_of c.args.lines.now) hp (zero-empty z) c.requires.1 no-five
            (sym w.is_forbidden.ensures ∙ w.if-is_forbidden.true)
      ],
      refl,
    )

pub is_forbidden-requires : goal.is_forbidden-requires
is_forbidden-requires c =
    let hp = rw c.get-p.ensures.value at c.get-p.ensures.below in
    let seen = rw c.get-p.ensures.value at c.cell_on.ensures in (
      c.requires.0,
      free-there c.args.lines.now c.args.code hp seen
          c.if-cell_on-ne0.false,
      c.rows_for-rows.ensures,
    )

pub only_eye-requires : goal.only_eye-requires
only_eye-requires c =
    let hp = rw c.get-p.ensures.value at c.get-p.ensures.below in
    let seen = rw c.get-p.ensures.value at c.cell_on.ensures in (
      c.requires.0,
      free-there c.args.lines.now c.args.code hp seen
          c.if-cell_on-ne0.false,
      c.rows_for-rows.ensures.swords,
      true-T (sym (some-told c.args.side Sword (cells_of c.args.lines.now) c.args.code c.rows_for-rows.ensures.swords
          c.some_row-2.ensures)
          ∙ c.if-not-some_row.false),
    )

pub returns-in_default : goal.returns-in_default
returns-in_default c =
    let hp = rw c.get-p.ensures.value at c.get-p.ensures.below in
    let seen = rw c.get-p.ensures.value at c.cell_on.ensures in
    let C = cells_of c.args.lines.now in
    let p = c.args.code in
    let z = free-there c.args.lines.now p hp seen c.if-cell_on-ne0.false in (
      several-ends c.args.side C p (length-cells_of c.args.lines.now) hp (zero-empty z) c.requires.1
          (sym (some-told c.args.side Four C p c.rows_for-rows.ensures.fours c.some_row.ensures) ∙ c.if-some_row.false)
          (sym c.is_forbidden.ensures ∙ c.if-is_forbidden.false) c.in_default.ensures,
      refl,
    )

pub unwrap-requires : goal.unwrap-requires
unwrap-requires c =
    let hp = rw c.get-p.ensures.value at c.get-p.ensures.below in
    let seen = rw c.get-p.ensures.value at c.cell_on.ensures in
    let l = c.args.lines.now in
    let C = cells_of l in
    let p = c.args.code in
    let r = c.args.side in
    let z = free-there l p hp seen c.if-cell_on-ne0.false in
    let no-five = sym (some-told r Four C p c.rows_for-rows.ensures.fours c.some_row.ensures) ∙ c.if-some_row.false in
    let allowed = sym c.is_forbidden.ensures ∙ c.if-is_forbidden.false in
    let eye = only-told c.in-Some.ensures in
    can_make 225 _ c.new.ensures
    (eye-lt r C p (length-cells_of l) hp (zero-empty z) c.requires.1 no-five allowed _ eye)

pub answer_at-answer-requires : goal.answer_at-answer-requires
answer_at-answer-requires c =
    let hp = rw c.get-p.ensures.value at c.get-p.ensures.below in
    let seen = rw c.get-p.ensures.value at c.cell_on.ensures in
    let put = rw c.get-p.ensures.value at c.mark_by.ensures in
    let l = c.args.lines.now in
    let C = cells_of l in
    let p = c.args.code in
    let r = c.args.side in
    let z = free-there l p hp seen c.if-cell_on-ne0.false in
    let no-five = sym (some-told r Four C p c.rows_for-rows.ensures.fours c.some_row.ensures) ∙ c.if-some_row.false in
    let allowed = sym c.is_forbidden.ensures ∙ c.if-is_forbidden.false in
    let eye = only-told c.in-Some.ensures in
    let lt = eye-lt r C p (length-cells_of l) hp (zero-empty z) c.requires.1 no-five allowed _ eye in (
      put-sound r l _ p c.requires.0 hp z c.numbers-numbers.ensures put,
      rw (made 225 _ c.new.ensures c.unwrap.ensures)
          (empty-is _ _ lt (rw (put-cells r l _ p c.requires.0 hp z c.numbers-numbers.ensures put)
          (eye-free r C p (length-cells_of l) hp (zero-empty z) c.requires.1 no-five allowed _ eye))),
    )

pub returns : goal.returns
returns c =
    let hp = rw c.get-p.ensures.value at c.get-p.ensures.below in
    let seen = rw c.get-p.ensures.value at c.cell_on.ensures in
    let put = rw c.get-p.ensures.value at c.mark_by.ensures in
    let off = rw c.get-p.ensures.value at c.mark_by-2.ensures in
    let l = c.args.lines.now in
    let C = cells_of l in
    let p = c.args.code in
    let r = c.args.side in
    let z = free-there l p hp seen c.if-cell_on-ne0.false in
    let no-five = sym (some-told r Four C p c.rows_for-rows.ensures.fours c.some_row.ensures) ∙ c.if-some_row.false in
    let allowed = sym c.is_forbidden.ensures ∙ c.if-is_forbidden.false in
    let eye = only-told c.in-Some.ensures in (
      answered r C p (length-cells_of l) hp (zero-empty z) c.requires.1 no-five allowed _ eye _
          (rw (
            sym (put-cells r l _ p c.requires.0 hp z c.numbers-numbers.ensures put),
            sym
                c.opponent.ensures,
          ) (rw (made 225 _ c.new.ensures c.unwrap.ensures) at c.answer_at-answer.ensures)),
      put_back r l _ p c.requires.0 hp z c.numbers-numbers.ensures put refl off,
    )
