-- Rows told by segments: what a segment's row has left to fill are section 4's eyes of the line's row. Assumes nothing.
use mathlib.Core.Path.{◌≡◌, ap}
use mathlib.Core.Bool.{Bool, true, false, not, ◌&&◌}
use Prim.Native.Nat.{ℕ, suc, ◌+◌, ◌<◌}
use native.Mathlib.Omega.{arith}
use lib.Dec.{T, leb, ltb}
use borrow.Author.Tests.{le-leb, lt-ltb}
use Rattle.rules.specs.Line.{Stones, no_stone, row_at, among, empty_at, eye_span, is_eye, eyes_mask}
use Rattle.rules.specs.declared.RowKind.{RowKind}
use Rattle.rules.proofs.Logic.{not-false, same-leb}
use Rattle.rules.proofs.Tables.{table2}
use Rattle.rules.proofs.Bits.{mask-cong}
use Rattle.rules.proofs.Windows.{free-at, row-whole}
use Rattle.rules.proofs.Around.{segment, cell_at}
use Rattle.segment.specs.Rows.{unfilled}

-- of a line's segment, what is left of the line's window
pub unfilled-around : (own : Stones) (k : RowKind) (j : ℕ) → unfilled (segment own j) k 1 ≡ unfilled own k j
unfolding unfilled
unfilled-around own k j =
    mask-cong 5 (λ i. ltb i (eye_span k) && not (segment own j (1 + i))) (λ i. ltb i (eye_span k) && not (own (j + i)))
    (λ i h. ap (λ (b : Bool). ltb i (eye_span k) && not b) (cell_at own j (1 + i) (j + i) (omega arith) (omega arith)))

-- where the row stands, its eyes
pub row-unfilled : (black : Bool) (size : ℕ) (own other : Stones) (k : RowKind) (j : ℕ) → T (row_at black size own other k j)
    → unfilled own k j ≡ eyes_mask size own other k j
unfolding unfilled eyes_mask is_eye among empty_at no_stone
row-unfilled black size own other k j t =
    mask-cong 5 (λ i. ltb i (eye_span k) && not (own (j + i)))
    (λ i. (leb j (j + i) && ltb (j + i) (j + eye_span k)) && (ltb (j + i) size && (not (own (j + i)) && not (other (j + i))))) same
  where
    same : (i : ℕ) → i < 5 → (ltb i (eye_span k) && not (own (j + i)))
        ≡ ((leb j (j + i) && ltb (j + i) (j + eye_span k)) && (ltb (j + i) size && (not (own (j + i)) && not (other (j + i)))))
    same i h =
        let w = row-whole black size own other k j t in
        let here : leb j (j + i) ≡ true = le-leb j (j + i) (omega arith) in
        let on : ltb (j + i) size ≡ true = lt-ltb (j + i) size (omega (arith, w.fits)) in
        let clear : other (j + i) ≡ false = not-false (free-at other j i h w.is_free) in
        let near : ltb (j + i) (j + eye_span k) ≡ ltb i (eye_span k) =
        same-leb (suc (j + i)) (j + eye_span k) (suc i) (eye_span k) (λ a. omega arith) (λ a. omega arith) in
        rw (here, on, clear, near) (table2 (λ a b. a && not b) (λ a b. a && (not b && true)) tt (ltb i (eye_span k)) (own (j + i)))
