-- `records::bytes::holds` meets its contract: the front is as wanted, and what is behind it unused. Assumes nothing.
use mathlib.Core.Path.{◌≡◌, ap, sym, ◌∙◌}
use mathlib.Core.Bool.{Bool, ◌&&◌}
use mathlib.Core.List.{List}
use Prim.Native.Nat.{ℕ, ◌-◌}
use native.Mathlib.Omega.{arith}
use lib.Dec.{eqb}
use lib.ListN.{length, take, drop, length-drop}
use Rattle.std.proofs.lemmas.List.{take_all}
use Rattle.rules.specs.Tools.{all_below}
use Rattle.records.specs.Records.{byte_at}
use Rattle.records.proofs.Laws.{page-parts}
use Rattle.records.proofs.bytes.holds.Goals as goal

pub returns-then-begins : goal.returns-then-begins
returns-then-begins c =
    let page = c.args.page.now in
    let n = c.min-n.result in
    let rest : Bool = all_below (length (drop n page)) (λ i. eqb (byte_at (drop n page) i) 255) in
    let whole : take (length page - n) (drop n page) ≡ drop n page = take_all (length page - n) (drop n page) (omega (arith, length-drop n page)) in
    c.is_unused.ensures
    ∙ ap (λ (l : List ℕ). all_below (length l) (λ i. eqb (byte_at l i) 255)) whole
    ∙ sym (ap (λ (b : Bool). b && rest) (sym c.begins.ensures ∙ c.if-begins.true))
    ∙ page-parts page c.args.wanted.now n (omega (arith, c.min-n.ensures)) (λ l. omega (arith, c.min-n.ensures, l))

pub returns-else-begins : goal.returns-else-begins
returns-else-begins c =
    let page = c.args.page.now in
    let n = c.min-n.result in
    let rest : Bool = all_below (length (drop n page)) (λ i. eqb (byte_at (drop n page) i) 255) in
    c.if-begins.false
    ∙ sym (ap (λ (b : Bool). b && rest) (sym c.begins.ensures ∙ c.if-begins.false))
    ∙ page-parts page c.args.wanted.now n (omega (arith, c.min-n.ensures)) (λ l. omega (arith, c.min-n.ensures, l))
