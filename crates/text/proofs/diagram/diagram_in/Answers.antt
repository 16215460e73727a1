-- `text::diagram::diagram_in` meets its contract: k lines are read, and the rest of the text has the others. Assumes nothing.
use mathlib.Core.Path.{◌≡◌, refl, ap, sym, ◌∙◌}
use mathlib.Core.Bool.{Bool, ◌&&◌}
use mathlib.Core.List.{List, [], ◌∷◌}
use Prim.Native.Nat.{ℕ, ◌+◌, ◌≤◌}
use native.Mathlib.Omega.{arith}
use borrow.Author.Rules.{rules}
use borrow.Author.Tests.{leb-true, leb-false}
use lib.Dec.{eqb, leb}
use lib.ListN.{length, drop}
use Rattle.std.proofs.Common.{Option, Some, Bor}
use Rattle.rules.specs.declared.refusal.Refusal.TheVariants.{OverLength}
use Rattle.lent.specs.Lists.{zeros}
use Rattle.text.specs.Bytes.{newline, parts, dense}
use Rattle.text.proofs.Dense.{next-in, next-is, next-rest}
use Rattle.text.proofs.Told.{test_err, test_ok}
use Rattle.text.proofs.Places.{left_in, parts-length}
use Rattle.text.proofs.Lined.{lined-none, lined_long, lined-more, lined-ok, lined-refused}
use Rattle.text.proofs.diagram.diagram_in.Goals as goal

pub lines-init : goal.lines-init
unfolding zeros
lines-init c = (refl, omega arith, lined-none (parts newline c.args.t.now))

-- the next line
next : (t : List ℕ) (k : ℕ) (rest : Option (Bor (List ℕ))) (items : Bor (List ℕ)) (line : List ℕ) (others : Option (Bor (List ℕ)))
    → drop k (parts newline t) ≡ left_in newline rest → rest ≡ Some items → parts newline items.now ≡ line ∷ left_in newline others
    → drop k (parts newline t) ≡ line ∷ left_in newline others
next t k rest items line others e i p = e ∙ ap (left_in newline) i ∙ p

pub returns-in_err-unless : goal.returns-in_err-unless
returns-in_err-unless c =
    let t = c.args.t.now in
    let ls = parts newline t in
    let k = c.lines.k in
    let line = c.parted.result.0.now in
    let e = next t k c.lines.rest c.in-Some.lines line c.parted.result.1 c.lines.invariant.0 c.in-Some.is c.parted.ensures.parts in
    let f = test_err (leb c.row_in-size.result 15) OverLength c.in_err-unless.field-0.0 (sym c.in_err-unless.was ∙ c.unless.ensures) in
    let h = leb-false c.row_in-size.result 15 f.0 in
    let told = lined_long ls k line (next-is [] ls k line (left_in newline c.parted.result.1) e) c.row_in-size.result c.row_in-size.ensures.0
    (next-in [] ls k line (left_in newline c.parted.result.1) e) h in
    rw (← told) (search rules)

pub overflow_add-k : goal.overflow_add-k
overflow_add-k c =
    let t = c.args.t.now in
    let n = ap length (ap (left_in newline) c.in-Some.is ∙ c.parted.ensures.parts) in
    omega (arith, c.lines.invariant.1, parts-length newline t)

pub lines-preserved : goal.lines-preserved
lines-preserved c =
    let t = c.args.t.now in
    let ls = parts newline t in
    let k = c.lines.k in
    let line = c.parted.result.0.now in
    let others = left_in newline c.parted.result.1 in
    let e = next t k c.lines.rest c.in-Some.lines line c.parted.result.1 c.lines.invariant.0 c.in-Some.is c.parted.ensures.parts in
    let f = test_ok (leb c.row_in-size.result 15) OverLength (sym (c.in_ok-unless.was) ∙ c.unless.ensures) in
    let h = leb-true c.row_in-size.result 15 f in
    let n = ap length (ap (left_in newline) c.in-Some.is ∙ c.parted.ensures.parts) in
    let m = lined-more ls k line (next-is [] ls k line others e) c.row_in-size.result c.row_in-size.ensures.0 h c.lines.cells
    c.lines.full c.lines.invariant.2 _ _ c.row_in-size.ensures.1 refl in
    (next-rest [] ls k line others e, omega (arith, c.lines.invariant.1), m)

pub returns-in_err-count_refusal : goal.returns-in_err-count_refusal
returns-in_err-count_refusal c =
    let ls = parts newline c.args.t.now in
    let n : length ls ≡ c.lines.k = omega (arith, c.lines.invariant.1, ap (λ (r : Option (Bor (List ℕ))). length (left_in newline r)) c.in_default.is) in
    let told = lined-refused ls c.lines.cells c.lines.full c.lines.k c.lines.invariant.2 n c.in_err-count_refusal.field-0.0
    (sym c.in_err-count_refusal.was ∙ c.count_refusal.ensures) in
    rw (← told) (search rules)

pub returns : goal.returns
returns c =
    let ls = parts newline c.args.t.now in
    let n : length ls ≡ c.lines.k = omega (arith, c.lines.invariant.1, ap (λ (r : Option (Bor (List ℕ))). length (left_in newline r)) c.in_default.is) in
    lined-ok ls c.lines.cells c.lines.full c.lines.k c.lines.invariant.2 n (sym c.in_ok-count_refusal.was ∙ c.count_refusal.ensures)
