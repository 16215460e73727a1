-- `text::points::leading_into` meets its contract: the codes of the items that were read are kept, and the rest of the text has the others.
-- Assumes nothing.
use mathlib.Core.Path.{sym, ap, ◌∙◌}
use Rattle.text.specs.Bytes.{comma}
use Rattle.text.specs.Points.{item_refusal, item_code}
use Rattle.text.specs.declared.points.Leading.{Leading}
use Rattle.text.proofs.Told.{told_ok, told_err}
use Rattle.text.proofs.Places.{left_in}
use Rattle.text.proofs.Items.{reading-none, reading-more, reading-slip, reading-end}
use Rattle.text.proofs.points.leading_into.Goals as goal

pub items-init : goal.items-init
items-init c = rw c.requires.1 (reading-none c.args.s.now c.trimmed.result.now c.requires.0 c.trimmed.ensures.value)

pub items-preserved : goal.items-preserved
items-preserved c =
    let told = told_ok (item_refusal c.parted.result.0.now) (item_code c.parted.result.0.now) c.in-Ok.code
    (sym c.in-Ok.is ∙ c.item_in.ensures) in
    reading-more c.args.s.now c.items.codes (left_in comma c.items.rest) c.items.invariant c.parted.result.0.now
    (left_in comma c.parted.result.1) (ap (left_in comma) c.in-Some.is ∙ c.parted.ensures.parts) told.0 c.in-Ok.code told.1
    c.keep.new.self c.keep.ensures

pub returns-in-Err : goal.returns-in-Err
returns-in-Err c =
    let told = told_err (item_refusal c.parted.result.0.now) (item_code c.parted.result.0.now) c.in-Err.refusal
    (sym c.in-Err.is ∙ c.item_in.ensures) in
    let found = reading-slip c.args.s.now c.items.codes (left_in comma c.items.rest) c.items.invariant c.parted.result.0.now
    (left_in comma c.parted.result.1) (ap (left_in comma) c.in-Some.is ∙ c.parted.ensures.parts) told.0 c.in-Err.refusal told.1 in
    rw c.len-item.ensures.value (ap (λ (l : Leading). l.codes) found, ap (λ (l : Leading). l.slip) found)

pub returns : goal.returns
returns c =
    let found = reading-end c.args.s.now c.items.codes (left_in comma c.items.rest) c.items.invariant (ap (left_in comma) c.in_default.is) in
    (ap (λ (l : Leading). l.codes) found, ap (λ (l : Leading). l.slip) found)
