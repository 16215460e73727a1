-- `diagrams::stones::side_into` meets its contract: the points are written, and kept behind the text. Assumes nothing.
use mathlib.Core.Path.{◌≡◌, ap, sym, ◌∙◌}
use mathlib.Core.List.{List, ◌++◌}
use Prim.Native.Nat.{ℕ, ◌≤◌}
use native.Mathlib.Omega.{arith}
use lib.ListN.{length, take}
use Rattle.cells.specs.Cells.{codes_refusal}
use Rattle.lent.specs.Lists.{zeros}
use Rattle.lent.proofs.Laws.{kept_lem, length-zeros}
use Rattle.display.specs.Texts.{points_text}
use Rattle.diagrams.proofs.Sides.{list_short, fit_told, fit-front}
use Rattle.diagrams.proofs.stones.side_into.Goals as goal

pub returns-in-Ok : goal.returns-in-Ok
unfolding zeros
returns-in-Ok c =
    let codes = c.args.codes.now in
    let text = points_text codes in
    let short = list_short codes c.requires.1 in
    let room : length text ≤ length (zeros 1125) = omega (arith, length-zeros 1125) in
    let said = sym c.in-Ok.is ∙ c.write_points.ensures.0 ∙ fit_told (codes_refusal codes) (zeros 1125) text c.requires.0 room in
    let many : c.in-Ok.n ≡ length text = cc in
    let front = c.head.ensures ∙ ap (λ (n : ℕ). take n c.write_points.new.out) many
    ∙ ap (take (length text)) c.write_points.ensures.1 ∙ fit-front (codes_refusal codes) (zeros 1125) text c.requires.0 room in
    let e = ap length front in
    c.keep.ensures ∙ kept_lem 2251 c.args.text.now c.head.result.now (omega (arith, c.requires.2)) ∙ ap (λ (l : List ℕ). c.args.text.now ++ l) front

pub returns-in_default : goal.returns-in_default
unfolding zeros
returns-in_default c =
    let codes = c.args.codes.now in
    let text = points_text codes in
    let short = list_short codes c.requires.1 in
    let room : length text ≤ length (zeros 1125) = omega (arith, length-zeros 1125) in
    absurd (c.in_default.not-Ok (length text) (c.write_points.ensures.0 ∙ fit_told (codes_refusal codes) (zeros 1125) text c.requires.0 room))
