-- `lists::front::row_points` meets its contract: refused, or the list is collected, then handed out. Assumes nothing.
use mathlib.Core.Path.{◌≡◌, refl, ap, sym, ◌∙◌}
use native.Mathlib.Omega.{arith}
use borrow.Author.Rules.{rules}
use borrow.Author.Tests.{lt-ltb}
use lib.ListN.{length}
use Rattle.std.proofs.lemmas.Option.{cond_some}
use Rattle.rules.proofs.Refusals.{unrefused}
use Rattle.lent.proofs.Handed.{handed, turned_down}
use Rattle.lists.proofs.Masked.{mask-open}
use Rattle.lists.proofs.front.row_points.Goals as goal

pub returns-in_err-mask_refusal : goal.returns-in_err-mask_refusal
returns-in_err-mask_refusal c = turned_down 1 _ _ _ (sym c.mask_refusal.ensures ∙ c.in_err-mask_refusal.was) (search rules)

pub mask_points-found-requires : goal.mask_points-found-requires
mask_points-found-requires c =
    let a = c.args in
    let key : c.unwrap-key.result ≡ a.key = sym (cond_some _ _ _ (sym c.new.ensures ∙ c.unwrap-key.ensures)).1 in
    rw key (mask-open a.key a.j a.mask (unrefused _ c.mask_refusal.ensures c.in_ok-mask_refusal.was)).1

pub unwrap-key-requires : goal.unwrap-key-requires
unwrap-key-requires c =
    let a = c.args in
    let on = (mask-open a.key a.j a.mask (unrefused _ c.mask_refusal.ensures c.in_ok-mask_refusal.was)).0 in
    rw (c.new.ensures, lt-ltb a.key 72 on) refl

pub returns : goal.returns
returns c =
    let a = c.args in
    let listed = c.as_slice.ensures.value in
    let key : c.unwrap-key.result ≡ a.key = sym (cond_some _ _ _ (sym c.new.ensures ∙ c.unwrap-key.ensures)).1 in
    let found = rw key at c.mask_points-found.ensures in
    handed 1 _ _ _ (unrefused _ c.mask_refusal.ensures c.in_ok-mask_refusal.was) (listed ∙ found)
    (omega (arith, c.len.ensures.value, ap length listed)) c.hand_out.ensures
