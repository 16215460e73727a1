-- `depth::front::ruled_depth` meets its contract. Assumes nothing.
use mathlib.Core.Path.{ap, sym, ◌∙◌}
use mathlib.Core.List.{List}
use Prim.Native.Nat.{ℕ, ◌<◌}
use native.Mathlib.Omega.{arith}
use Rattle.rules.specs.Depth.{depth_of}
use Rattle.referee.specs.Answers.{is_tried}
use Rattle.referee.proofs.Asked.{lines-of-sound, lines-of-cells}
use Rattle.depth.proofs.Answered.{lines-there, lines-none, shallow}
use Rattle.depth.proofs.front.ruled_depth.Goals as goal

pub depth_on-requires : goal.depth_on-requires
depth_on-requires c =
    let cells = c.args.cells.now in
    let p = c.args.code in
    let hp : p < 225 = omega arith in
    let built = lines-there (is_tried cells p) (sym c.in-Some.is ∙ c.requires.1) in
    lines-of-sound cells p c.requires.0 hp built

pub returns-in-Some : goal.returns-in-Some
returns-in-Some c =
    let cells = c.args.cells.now in
    let p = c.args.code in
    let hp : p < 225 = omega arith in
    let built = lines-there (is_tried cells p) (sym c.in-Some.is ∙ c.requires.1) in
    c.depth_on.ensures.0 ∙ ap (λ (x : List ℕ). depth_of x p) (lines-of-cells cells p c.requires.0 hp built)

pub returns-in-None : goal.returns-in-None
returns-in-None c =
    let cells = c.args.cells.now in
    let p = c.args.code in
    let hp : p < 225 = omega arith in
    (rw c.get.ensures.value at c.shallow_depth.ensures)
    ∙ shallow cells p c.requires.0 hp (lines-none (is_tried cells p) _ (sym c.in-None.is ∙ c.requires.1))
