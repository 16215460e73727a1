-- `text::forms::stones_in` meets its contract: what it calls says it. Assumes nothing.
use mathlib.Core.Path.{◌≡◌, refl, ap, sym, ◌∙◌}
use mathlib.Core.List.{List}
use Prim.Native.Nat.{ℕ}
use native.Mathlib.Omega.{arith}
use borrow.Author.Rules.{rules}
use lib.ListN.{length}
use Rattle.std.proofs.Common.{Bor}
use Rattle.rules.proofs.Refusals.{unrefused}
use Rattle.text.specs.Bytes.{slash, before, behind}
use Rattle.text.specs.Points.{points_refusal}
use Rattle.text.specs.Reading.{slash_refusal, stones_text_refusal, stones_in}
use Rattle.text.proofs.Told.{told_err, told_second}
use Rattle.text.proofs.Places.{behind_or, behind-le}
use Rattle.text.proofs.forms.stones_in.Goals as goal

pub codes_in-requires-2 : goal.codes_in-requires-2
codes_in-requires-2 c =
    let e = ap length (ap (λ (b : Bor (List ℕ)). b.now) c.unwrap_or.ensures ∙ behind_or c.parted.result.1 _ refl ∙ c.parted.ensures.behind) in
    (omega (arith, e, behind-le slash c.args.t.now), c.new-whites.ensures)

pub returns-in_err-codes_in-2 : goal.returns-in_err-codes_in-2
unfolding stones_text_refusal
returns-in_err-codes_in-2 c =
    let t = c.args.t.now in
    let e = ap (λ (b : Bor (List ℕ)). b.now) c.unwrap_or.ensures ∙ behind_or c.parted.result.1 _ refl ∙ c.parted.ensures.behind in
    let w : c.parted-2.result.0.now ≡ before slash (behind slash t) = c.parted-2.ensures.before ∙ ap (before slash) e in
    let blacks = rw c.parted.ensures.before at (unrefused (points_refusal c.parted.result.0.now) c.codes_in.ensures.value c.in_ok-codes_in.was) in
    let whites = rw w at (told_err (points_refusal c.parted-2.result.0.now) tt c.in_err-codes_in-2.field-0.0
    (sym c.in_err-codes_in-2.was ∙ c.codes_in-2.ensures.value)) in
    let told = told_second (points_refusal (before slash t)) (points_refusal (before slash (behind slash t))) (slash_refusal t) (stones_in t)
    c.in_err-codes_in-2.field-0.0 blacks whites.0 whites.1 in
    rw (← told) (search rules)
