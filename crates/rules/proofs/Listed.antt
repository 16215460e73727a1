-- The forbidden list: each forbidden point once with its kind, in code order, and nothing else; how long it is. Assumes nothing.
use mathlib.Core.Path.{◌≡◌, sym, ap, ap₂, ◌∙◌}
use mathlib.Core.Logic.{inr}
use mathlib.Core.Bool.{Bool, not}
use mathlib.Core.List.{List, [], ◌∷◌}
use Prim.Native.Nat.{ℕ, ◌+◌, ◌*◌, ◌/◌, ◌≤◌, ◌<◌}
use native.Mathlib.Omega.{arith}
use native.Mathlib.Nat.{zero-add}
use lib.ListN.{length}
use Rattle.rules.specs.Numbers.{verdict_no, is_none}
use Rattle.rules.specs.Tools.{gather, only}
use Rattle.rules.specs.Bit.{count_of}
use Rattle.rules.specs.Forbidden.{entry, strict_of, forbidden_list}
use Rattle.rules.specs.declared.Verdict.{Verdict}
use Rattle.rules.proofs.Bits.{count-le}
use Rattle.rules.proofs.Lists.{gather_cong, gather-count, pairs, gather_pairs, InOrder, listed}
use Rattle.rules.proofs.Lists.{pairs-order, pairs-listed, pairs-outside}

-- the kinds of a board's points
abbrev pub kinds : List ℕ → ℕ → ℕ
kinds cells p = verdict_no (strict_of cells p)

pub list-pairs : (cells : List ℕ) → forbidden_list cells ≡ pairs (kinds cells) 0 225
unfolding forbidden_list
list-pairs cells =
    gather_cong 225 (λ p. entry (strict_of cells p) p) (λ p. entry (strict_of cells (0 + p)) (0 + p))
    (λ p h. ap (λ (x : ℕ). entry (strict_of cells x) x) (sym (zero-add p)))
    ∙ gather_pairs (strict_of cells) 0 225

pub list-order : (cells : List ℕ) → InOrder 0 (forbidden_list cells)
list-order cells = rw (list-pairs cells) (pairs-order (kinds cells) 0 0 225 (omega arith))

pub list-names : (cells : List ℕ) (p : ℕ) → p < 225 → listed (forbidden_list cells) p ≡ verdict_no (strict_of cells p)
list-names cells p hp = rw (list-pairs cells) (pairs-listed (kinds cells) 0 225 p (omega arith) (omega arith))

pub list-names-only : (cells : List ℕ) (p : ℕ) → 225 ≤ p → listed (forbidden_list cells) p ≡ 0
list-names-only cells p hp = rw (list-pairs cells) (pairs-outside (kinds cells) 0 225 p (inr (omega arith)))

-- the count that is given with the list is that of the forbidden points
pub points-count : (cells : List ℕ) → length (forbidden_list cells) / 2 ≡ count_of 225 (λ p. not (is_none (strict_of cells p)))
unfolding forbidden_list
points-count cells =
    let e = gather-count 2 225 (λ p. not (is_none (strict_of cells p))) (λ p. verdict_no (strict_of cells p) ∷ p ∷ []) (λ p. omega arith) in
    omega arith

-- two bytes a point
pub pairs-short : (cells : List ℕ) (n : ℕ) → length (gather n (λ p. entry (strict_of cells p) p)) ≤ n * 2
pairs-short cells n =
    let e = gather-count 2 n (λ p. not (is_none (strict_of cells p))) (λ p. verdict_no (strict_of cells p) ∷ p ∷ []) (λ p. omega arith) in
    let l = count-le n (λ p. not (is_none (strict_of cells p))) in
    omega arith

-- an item of the list, as it is kept
pub entry-is : {v w : Verdict} {on : Bool} {kind : ℕ} (p : ℕ) → v ≡ w → on ≡ not (is_none v) → kind ≡ verdict_no v
    → only on (kind ∷ p ∷ []) ≡ entry w p
entry-is {w = w} p ev eo ek =
    ap₂ (λ (b : Bool) (k : ℕ). only b (k ∷ p ∷ [])) (eo ∙ ap (λ (x : Verdict). not (is_none x)) ev) (ek ∙ ap verdict_no ev)
