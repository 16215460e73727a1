-- `mending::kept::mend_list` meets its contract: a repeat among the codes that were read, or else what the reader says. Assumes nothing.
use mathlib.Core.Path.{◌≡◌, ap, ◌∙◌}
use native.Mathlib.Omega.{arith}
use lib.ListN.{length}
use Rattle.std.specs.Prelude.{Ok}
use Rattle.rules.proofs.Refusals.{answered}
use Rattle.text.specs.Bytes.{text_refusal}
use Rattle.text.specs.Points.{list_found}
use Rattle.text.proofs.Told.{tells_ok}
use Rattle.mending.specs.Mending.{mended_found}
use Rattle.mending.specs.declared.kept.Mended.{Mended}
use Rattle.mending.proofs.Moves.{repeat-found, reader-found, moves-short, all_short}
use Rattle.mending.proofs.kept.mend_list.Goals as goal

pub kept_moves-requires : goal.kept_moves-requires
kept_moves-requires c =
    let s = c.args.text.now in
    let told = answered (text_refusal s) (list_found s) c.read_leading.ensures c.in_ok-found.was in
    let short = moves-short s c.in_ok-found.found c.first_ones-n.result c.as_slice-codes.result.now told.1 c.as_slice-codes.ensures.value
    c.first_ones-n.ensures in
    omega (arith, ap length c.head.ensures, short)

pub returns-then-n-codes : goal.returns-then-n-codes
returns-then-n-codes c =
    let s = c.args.text.now in
    let told = answered (text_refusal s) (list_found s) c.read_leading.ensures c.in_ok-found.was in
    let made : c.kept_moves.result ≡ mended_found s
    = c.kept_moves.ensures
    ∙ repeat-found s c.in_ok-found.found c.first_ones-n.result c.as_slice-codes.result.now told.1 c.as_slice-codes.ensures.value
    c.first_ones-n.ensures c.if-n-codes.true c.head.result.now c.head.ensures in
    ap (λ (m : Mended). Ok m) made ∙ tells_ok (text_refusal s) (mended_found s) told.0

pub kept_moves-requires-2 : goal.kept_moves-requires-2
kept_moves-requires-2 c =
    let s = c.args.text.now in
    let told = answered (text_refusal s) (list_found s) c.read_leading.ensures c.in_ok-found.was in
    all_short s c.in_ok-found.found c.first_ones-n.result c.as_slice-codes.result.now told.1 c.as_slice-codes.ensures.value
    c.first_ones-n.ensures c.if-n-codes.false

pub returns : goal.returns
returns c =
    let s = c.args.text.now in
    let told = answered (text_refusal s) (list_found s) c.read_leading.ensures c.in_ok-found.was in
    let made : c.kept_moves-2.result ≡ mended_found s
    = c.kept_moves-2.ensures
    ∙ reader-found s c.in_ok-found.found c.first_ones-n.result c.as_slice-codes.result.now told.1 c.as_slice-codes.ensures.value
    c.first_ones-n.ensures c.if-n-codes.false c.unread.result c.unread.ensures in
    ap (λ (m : Mended). Ok m) made ∙ tells_ok (text_refusal s) (mended_found s) told.0
