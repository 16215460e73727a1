-- `diagrams::stones::joined` meets its contract: there is room for each part behind those before. Assumes nothing.
use mathlib.Core.Path.{ap, ◌∙◌}
use mathlib.Core.List.{List, [], ◌∷◌, ◌++◌, append_assoc}
use Prim.Native.Nat.{ℕ}
use native.Mathlib.Omega.{arith}
use lib.ListN.{length, length-append}
use Rattle.lent.proofs.Laws.{kept_lem}
use Rattle.text.specs.Bytes.{slash}
use Rattle.display.specs.Texts.{points_text}
use Rattle.diagrams.proofs.Sides.{list_short}
use Rattle.diagrams.proofs.stones.joined.Goals as goal

pub side_into-requires-2 : goal.side_into-requires-2
side_into-requires-2 c =
    let a = c.args.before.now in
    let first = c.side_into.ensures ∙ ap (λ (l : List ℕ). l ++ points_text a) c.new-text.ensures in
    let short = list_short a c.requires.1 in
    let e = ap length first in
    let kept = ap length (c.keep.ensures ∙ kept_lem 2251 c.side_into.new.text (slash ∷ []) (omega arith)) in
    let f = length-append c.side_into.new.text (slash ∷ []) in
    (c.requires.2, c.requires.3, omega arith)

pub returns : goal.returns
returns c =
    let a = c.args.before.now in
    let b = c.args.behind.now in
    let first = c.side_into.ensures ∙ ap (λ (l : List ℕ). l ++ points_text a) c.new-text.ensures in
    let short = list_short a c.requires.1 in
    let e = ap length first in
    let kept = c.keep.ensures ∙ kept_lem 2251 c.side_into.new.text (slash ∷ []) (omega arith) ∙ ap (λ (l : List ℕ). l ++ slash ∷ []) first in
    c.side_into-2.ensures ∙ ap (λ (l : List ℕ). l ++ points_text b) kept ∙ append_assoc (points_text a) (slash ∷ []) (points_text b)
