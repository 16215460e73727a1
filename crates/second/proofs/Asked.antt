-- The steps of section 5's questions on a board of cells: by the cell, by the counts, and with the trial stone. Assumes nothing.
use mathlib.Core.Path.{◌≡◌, ap, sym, ◌∙◌}
use mathlib.Core.Bool.{true, false}
use mathlib.Core.List.{List}
use Prim.Native.Nat.{ℕ, suc, ◌+◌, ◌*◌, ◌≤◌, ◌<◌}
use native.Mathlib.Omega.{arith}
use lib.Dec.{leb}
use lib.ListN.{get_or, set}
use lib.Seq.{set-set, set-get_or}
use borrow.Author.Tests.{le-leb, lt-leb, eqb-true, eq-eqb, ne_eqb}
use Rattle.rules.specs.Grid.{is_empty, empties, Starts, rows_through}
use Rattle.rules.specs.Forbidden.{some_row, more_than_one, with_black, completes_five, strict_of, plain_of}
use Rattle.rules.specs.declared.Player.TheVariants.{Black}
use Rattle.rules.specs.declared.RowKind.TheVariants.{Four}
use Rattle.rules.specs.declared.Verdict.TheVariants.{None}
use Rattle.rules.proofs.Logic.{true-T}
use Rattle.rules.proofs.Changes.{empties-put}
use Rattle.rules.proofs.Verdicts.{strict-taken, strict-free}
use Rattle.cells.specs.Cells.{Cells}
use Rattle.cells.proofs.Given.{empty-value, put-ok}
use Rattle.second.specs.Count.{row_count}
use Rattle.second.proofs.Tallied.{count-some, count-more}

-- ---- what a count says

module _ (s : Starts) {n : ℕ} (is : n ≡ row_count s) where
  pub some-true : 1 ≤ n → some_row s ≡ true
  some-true h = sym (count-some s) ∙ ap (leb 1) (sym is) ∙ le-leb 1 n h

  pub some-false : n < 1 → some_row s ≡ false
  some-false h = sym (count-some s) ∙ ap (leb 1) (sym is) ∙ lt-leb 1 n h

  pub more-is : leb 2 n ≡ more_than_one s
  more-is = ap (leb 2) is ∙ count-more s

  pub more-true : 2 ≤ n → more_than_one s ≡ true
  more-true h = sym more-is ∙ le-leb 2 n h

  pub more-false : n < 2 → more_than_one s ≡ false
  more-false h = sym more-is ∙ lt-leb 2 n h

-- .. of the Fours
module _ (cells : List ℕ) (p : ℕ) {n : ℕ} (is : n ≡ row_count (rows_through Black Four cells p)) where
  five-is : leb 1 n ≡ completes_five cells p
  unfolding completes_five
  five-is = ap (leb 1) is ∙ count-some (rows_through Black Four cells p)

  pub five-true : 1 ≤ n → completes_five cells p ≡ true
  five-true h = sym five-is ∙ le-leb 1 n h

  pub five-false : n < 1 → completes_five cells p ≡ false
  five-false h = sym five-is ∙ lt-leb 1 n h

-- ---- one question at p

module _ (cells : List ℕ) (p : ℕ) (ok : Cells cells) (hp : p < 225) where
  pub zero-there : is_empty (get_or cells p 0) ≡ true → get_or cells p 0 ≡ 0
  zero-there e = eqb-true (get_or cells p 0) 0 (empty-value cells ok p hp ∙ e)

  pub asked-taken : (get_or cells p 0 ≡ 0 → ⊥) → None ≡ strict_of cells p
  asked-taken n = strict-taken cells p ok.long hp (sym (empty-value cells ok p hp) ∙ ne_eqb (get_or cells p 0) 0 n)

  module _ (z : get_or cells p 0 ≡ 0) where
    none-there : is_empty (get_or cells p 0) ≡ true
    none-there = sym (empty-value cells ok p hp) ∙ eq-eqb (get_or cells p 0) 0 z

    module _ {n : ℕ} (is : n ≡ row_count (rows_through Black Four cells p)) where
      pub asked-five : 1 ≤ n → None ≡ strict_of cells p
      asked-five h = rw (le-leb 1 n h) at (strict-free cells p ok.long hp none-there (five-is cells p is))

      pub asked-plain : n < 1 → plain_of cells p ≡ strict_of cells p
      asked-plain h = rw (lt-leb 1 n h) at (strict-free cells p ok.long hp none-there (five-is cells p is))

    -- ---- the trial stone

    pub with-ok : Cells (with_black cells p)
    with-ok = put-ok Black cells p ok

    pub with-fewer : empties cells ≡ suc (empties (with_black cells p))
    with-fewer = let l = ok.long in empties-put Black cells p (omega arith) (true-T none-there)

    -- written back, the board is as it was
    pub written_back : {board : List ℕ} → board ≡ with_black cells p → set board p 0 ≡ cells
    written_back e =
        ap (λ (x : List ℕ). set x p 0) e ∙ set-set cells p 1 0 ∙ ap (set cells p) (sym z) ∙ set-get_or cells p 0

-- the same board, asked again: what falls is six times the number of empty points, and a little
pub fewer : (k t : ℕ) (was now : List ℕ) → now ≡ was → 6 * empties was + suc k ≡ t → 6 * empties now + k < t
fewer k t was now e h = rw e (omega arith)
