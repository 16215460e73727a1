-- `mending::lines::mended_lines` meets its contract: the lines of what is kept and of what slips. Assumes nothing.
use mathlib.Core.Path.{◌≡◌, ap, ◌∙◌}
use mathlib.Core.List.{List}
use Prim.Native.Nat.{ℕ}
use Rattle.std.specs.Prelude.{Ok}
use Rattle.rules.proofs.Refusals.{answered}
use Rattle.text.specs.Bytes.{text_refusal}
use Rattle.text.proofs.Told.{tells_ok}
use Rattle.mending.specs.Mending.{mended_found, mended_text}
use Rattle.mending.proofs.Moves.{mended-lines, moves-good}
use Rattle.mending.proofs.lines.mended_lines.Goals as goal

pub two_lines-requires : goal.two_lines-requires
two_lines-requires c =
    let s = c.args.text.now in
    let told = answered (text_refusal s) (mended_found s) c.mend_list.ensures c.in_ok-mended.was in
    rw c.as_slice.ensures.value (moves-good s c.in_ok-mended.mended told.1)

pub returns : goal.returns
returns c =
    let s = c.args.text.now in
    let told = answered (text_refusal s) (mended_found s) c.mend_list.ensures c.in_ok-mended.was in
    let made : c.two_lines.result ≡ mended_text s
    = c.two_lines.ensures
    ∙ rw (c.as_slice.ensures.value, c.numbers-item.ensures.item, c.numbers-item.ensures.reason) (mended-lines s c.in_ok-mended.mended told.1) in
    ap (λ (l : List ℕ). Ok l) made ∙ tells_ok (text_refusal s) (mended_text s) told.0
