-- `display::points::fits` meets its contract: after i turns the room is what the first i points leave. Assumes nothing.
use mathlib.Core.Path.{◌≡◌, ap, sym, ◌∙◌}
use native.Mathlib.Omega.{arith}
use lib.ListN.{length, length-append}
use borrow.Author.Tests.{le-leb, lt-leb}
use Rattle.rules.specs.Tools.{gather}
use Rattle.lent.proofs.Laws.{gather_none, gather-more}
use Rattle.display.specs.Texts.{point_item, points_text}
use Rattle.display.proofs.Sizes.{part-fits}
use Rattle.display.proofs.points.fits.Goals as goal

pub loop-i-init : goal.loop-i-init
loop-i-init c = let e = ap length (gather_none (point_item c.args.codes.now)) in omega arith

pub returns-then-left-n : goal.returns-then-left-n
unfolding points_text
returns-then-left-n c =
    let codes = c.args.codes.now in
    let n = c.len-n.ensures.value ∙ ap length c.item.ensures in
    sym (lt-leb (length (gather (length codes) (point_item codes))) c.args.room
    (omega (arith, part-fits (point_item codes) c.loop-i.i (length codes) c.loop-i-test.true)))

pub loop-i-preserved : goal.loop-i-preserved
loop-i-preserved c =
    let codes = c.args.codes.now in
    let i = c.loop-i.i in
    let n = c.len-n.ensures.value ∙ ap length c.item.ensures in
    let e = ap length (gather-more i (point_item codes)) in
    let a = length-append (gather i (point_item codes)) (point_item codes i) in
    omega arith

pub returns : goal.returns
unfolding points_text
returns c =
    let codes = c.args.codes.now in
    let e : c.loop-i.i ≡ length codes = omega arith in
    let a = ap (λ n. length (gather n (point_item codes))) e in
    sym (le-leb (length (gather (length codes) (point_item codes))) c.args.room (omega arith))
