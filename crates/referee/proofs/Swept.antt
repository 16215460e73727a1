-- The strict verdict by the marks of the points to ask about: none where there is no mark. Assumes nothing.
use mathlib.Core.Path.{◌≡◌, refl, ap, sym, subst, ◌∙◌}
use mathlib.Core.Bool.{Bool, true, false, ◌&&◌}
use mathlib.Core.List.{List, [], ◌∷◌}
use Prim.Native.Nat.{ℕ, zero, suc, ◌+◌, ◌-◌, ◌*◌, ◌/◌, ◌%◌, ◌≤◌, ◌<◌}
use native.Mathlib.Omega.{arith}
use lib.Dec.{T, eqb}
use lib.ListN.{get_or, length}
use borrow.Author.Tests.{eq-eqb}
use Rattle.rules.specs.Numbers.{verdict_no, is_none}
use Rattle.rules.specs.Tools.{any_below, gather}
use Rattle.rules.specs.Bit.{bit}
use Rattle.rules.specs.Point.{x_of, y_of}
use Rattle.rules.specs.Grid.{is_empty}
use Rattle.rules.specs.Forbidden.{may_forbid, strict_of, entry, forbidden_list}
use Rattle.rules.specs.declared.Verdict.{Verdict}
use Rattle.rules.specs.declared.Verdict.TheVariants.{None}
use Rattle.rules.proofs.Logic.{true-T, and_left, and_right}
use Rattle.rules.proofs.Lists.{gather-skip}
use Rattle.rules.proofs.Bits.{bit_mask, bit-none}
use Rattle.rules.proofs.Verdicts.{unasked-none}
use Rattle.sweep.specs.Marks.{marks, asked_at}
use Rattle.sweep.proofs.Marks.{mark-at, column-none}
use Rattle.cells.specs.Cells.{Cells}
use Rattle.referee.specs.Referee.{columns_of}

module _ (cells : List ℕ) (long : length cells ≡ 225) where
  pub mark-none : (p : ℕ) → p < 225 → asked_at cells p ≡ false → None ≡ strict_of cells p
  unfolding asked_at
  mark-none p hp e =
      unasked-none cells p long hp
      (sym (ap (λ (b : Bool). b && is_empty (get_or cells p 0) && may_forbid cells p) (eq-eqb (length cells) 225 long)) ∙ e)

  module _ {m : List ℕ} {columns : ℕ} (em : m ≡ marks (asked_at cells)) (ec : columns ≡ columns_of m) where
    -- a column's bit is clear: so is every mark in it
    column-clear : (p : ℕ) → p < 225 → bit columns (x_of p) ≡ false → None ≡ strict_of cells p
    unfolding columns_of
    column-clear p hp z =
        mark-none p hp (column-none (asked_at cells) p hp
        (ap (λ (l : List ℕ). any_below 26 (λ i. bit (get_or l i 0) (x_of p))) (sym em)
        ∙ sym (ap (λ (x : ℕ). bit x (x_of p)) ec ∙ bit_mask 16 (λ x. any_below 26 (λ i. bit (get_or m i 0) x)) (x_of p) (omega arith)) ∙ z))

    -- .. so the list of the points before p is that of the points before the next column
    pub column-skip : (p : ℕ) → p < 225 → bit columns (p / 15) ≡ false
        → gather (p - p % 15 + 15) (λ q. entry (strict_of cells q) q) ≡ gather p (λ q. entry (strict_of cells q) q)
    column-skip p hp z =
        ap (λ (x : ℕ). gather x (λ q. entry (strict_of cells q) q)) (next p)
        ∙ gather-skip (λ q. entry (strict_of cells q) q) p (15 - p % 15) (λ i a b.
        ap (λ (v : Verdict). entry v i) (sym (column-clear i (below i b) (subst (λ (x : ℕ). bit columns x ≡ false) (same i a b) z))))
      where
        next : (p : ℕ) → p - p % 15 + 15 ≡ p + (15 - p % 15)
        next p = omega arith

        below : (i : ℕ) → i < p + (15 - p % 15) → i < 225
        below i h = omega arith

        same : (i : ℕ) → p ≤ i → i < p + (15 - p % 15) → p / 15 ≡ i / 15
        same i a b = omega arith

    -- .. from the column's first point: the list of the points below column x is that of the points below the next
    pub column-passed : (x : ℕ) → x < 15 → bit columns x ≡ false
        → gather (15 * (x + 1)) (λ q. entry (strict_of cells q) q) ≡ gather (15 * x) (λ q. entry (strict_of cells q) q)
    column-passed x hx z =
        ap (λ (n : ℕ). gather n (λ q. entry (strict_of cells q) q)) next
        ∙ column-skip (15 * x) (omega arith) (subst (λ (n : ℕ). bit columns n ≡ false) same z)
      where
        next : 15 * (x + 1) ≡ 15 * x - (15 * x) % 15 + 15
        next = omega arith

        same : x ≡ (15 * x) / 15
        same = omega arith

    -- no mark at all: nothing is forbidden
    pub columns-none : columns ≡ 0 → [] ≡ forbidden_list cells
    unfolding forbidden_list gather
    columns-none z =
        sym (gather-skip (λ q. entry (strict_of cells q) q) 0 225 (λ i a b.
        ap (λ (v : Verdict). entry v i) (sym (column-clear i (omega arith) (ap (λ (x : ℕ). bit x (x_of i)) z ∙ bit-none (x_of i))))))

-- a mark, as it is read
pub marked-is : (cells : List ℕ) (p : ℕ) {m : List ℕ} {b : Bool} → p < 225 → m ≡ marks (asked_at cells)
    → b ≡ bit (get_or m (y_of p + 5) 0) (x_of p) → b ≡ asked_at cells p
marked-is cells p hp em eb =
    eb ∙ ap (λ (l : List ℕ). bit (get_or l (y_of p + 5) 0) (x_of p)) em ∙ mark-at (asked_at cells) p hp

-- a marked point is empty
free-cell : (v : ℕ) → v ≤ 2 → T (is_empty v) → v ≡ 0
free-cell zero h t = refl
free-cell (suc zero) h t = absurd t
free-cell (suc (suc zero)) h t = absurd t
free-cell (suc (suc (suc v))) h t = absurd (omega arith)

pub marked-free : (cells : List ℕ) (p : ℕ) → Cells cells → p < 225 → asked_at cells p ≡ true → get_or cells p 0 ≡ 0
unfolding asked_at
marked-free cells p ok hp e =
    free-cell (get_or cells p 0) (ok.small p hp)
    (and_right (eqb (length cells) 225) (is_empty (get_or cells p 0))
    (and_left (eqb (length cells) 225 && is_empty (get_or cells p 0)) (may_forbid cells p) (true-T e)))

-- ---- the entry of a point, by its verdict

module _ {v w : Verdict} {none : Bool} (p : ℕ) (ev : v ≡ w) (en : none ≡ is_none v) where
  pub kind-entry : {kind : ℕ} → none ≡ false → kind ≡ verdict_no v → entry w p ≡ (kind ∷ p ∷ [])
  kind-entry k ek = rw (← ev, ← en, k, ek) refl

  pub none-entry : none ≡ true → entry w p ≡ []
  none-entry k = rw (← ev, ← en, k) refl
