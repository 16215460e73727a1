-- `report::lines::line_into` meets its contract: there is room for each part behind those before. Assumes nothing.
use mathlib.Core.Path.{ap, ◌∙◌}
use mathlib.Core.List.{List, [], ◌∷◌, ◌++◌}
use Prim.Native.Nat.{ℕ}
use native.Mathlib.Omega.{arith}
use lib.ListN.{length, length-append}
use Rattle.text.specs.Bytes.{blank}
use Rattle.display.specs.Texts.{point_text}
use Rattle.report.proofs.Words.{point_few, kind_few}
use Rattle.report.proofs.lines.line_into.Goals as goal

pub put-requires-3 : goal.put-requires-3
put-requires-3 c =
    let a = c.args in
    let point = c.as_slice.ensures.value ∙ c.point_label.ensures in
    let one = ap length (c.put.ensures ∙ ap (λ (l : List ℕ). a.text.now ++ l) point) ∙ length-append a.text.now (point_text a.code) in
    let two = ap length c.put-2.ensures ∙ length-append c.put.new.text (blank ∷ []) in
    let kind = ap length c.kind_word.ensures in
    omega (arith, point_few a.code, kind_few a.kind, c.requires)

pub put-requires-4 : goal.put-requires-4
put-requires-4 c =
    let a = c.args in
    let point = c.as_slice.ensures.value ∙ c.point_label.ensures in
    let one = ap length (c.put.ensures ∙ ap (λ (l : List ℕ). a.text.now ++ l) point) ∙ length-append a.text.now (point_text a.code) in
    let two = ap length c.put-2.ensures ∙ length-append c.put.new.text (blank ∷ []) in
    let kind = ap length c.kind_word.ensures in
    let three = ap length c.put-3.ensures ∙ length-append c.put-2.new.text c.kind_word.result.now in
    omega (arith, point_few a.code, kind_few a.kind, c.requires)
