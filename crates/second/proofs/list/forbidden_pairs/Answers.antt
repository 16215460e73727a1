-- `second::list::forbidden_pairs` meets its contract: after p turns the points below p are asked, and the board is as it was. Assumes nothing.
use mathlib.Core.Path.{◌≡◌, refl, ap, sym, ◌∙◌}
use mathlib.Core.Bool.{not}
use mathlib.Core.List.{List, [], ◌∷◌}
use Prim.Native.Nat.{ℕ}
use native.Mathlib.Omega.{arith}
use Rattle.rules.specs.Tools.{gather}
use Rattle.rules.specs.Numbers.{is_none, verdict_no}
use Rattle.rules.specs.Forbidden.{strict_of, entry, forbidden_list}
use Rattle.lent.proofs.Laws.{gather_none, gather_kept, gather_passed, short}
use Rattle.second.proofs.Bounded.{made-is}
use Rattle.second.proofs.list.forbidden_pairs.Goals as goal
use Rattle.second.proofs.Bounded.{made-is}
use Rattle.second.proofs.list.forbidden_pairs.Goals.{then-not-is_none, else-not-is_none}

pub loop-p-init : goal.loop-p-init
loop-p-init c = (refl, c.new-list.ensures ∙ sym (gather_none _))

pub loop-p-preserved : goal.loop-p-preserved
loop-p-preserved c =
    let C = c.args.board.now in
    let p = c.loop-p.p in
    let f : ℕ → List ℕ = λ (q : ℕ). entry (strict_of C q) q in
    let e = c.strict-verdict.ensures.0 ∙ ap (λ (x : List ℕ). strict_of x c.unwrap.result) c.loop-p.invariant.0
    ∙ ap (strict_of C) (made-is 225 _ c.new.ensures c.unwrap.ensures) in
    let fit = short 2 (λ q. not (is_none (strict_of C q))) (λ q. verdict_no (strict_of C q) ∷ q ∷ []) (λ q. omega arith) p in (
      c.strict-verdict.ensures.1 ∙ c.loop-p.invariant.0,
      elim c.if-not-is_none.branch [
        | then-not-is_none w ↦ w.list-is ∙ gather_kept 450 f p c.loop-p.invariant.1 (w.number.result ∷ p ∷ []) w.keep.ensures
            (omega (arith, fit, c.loop-p-test.true)) (rw (w.number.ensures, sym e, sym c.is_none.ensures ∙ w.if-not-is_none.true))
        | else-not-is_none w ↦ gather_passed 450 f p c.loop-p.invariant.1 w.list-is
            (rw (sym e, sym c.is_none.ensures ∙ w.if-not-is_none.false))
      ],
    )

pub returns : goal.returns
unfolding forbidden_list
returns c =
    let C = c.args.board.now in
    let e : c.loop-p.p ≡ 225 = omega arith in
    c.loop-p.invariant.1 ∙ ap (λ (n : ℕ). gather n (λ q. entry (strict_of C q) q)) e
