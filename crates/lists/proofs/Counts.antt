-- The count that is given with a list of rows is the number of rows. (A list of points has one byte for each.) Assumes nothing.
use mathlib.Core.Path.{◌≡◌, refl, ap₂, sym, ◌∙◌}
use mathlib.Core.Bool.{Bool}
use mathlib.Core.List.{List}
use Prim.Native.Nat.{ℕ, zero, suc, ◌+◌, ◌*◌, ◌/◌}
use native.Mathlib.Nat.{add-mul}
use native.Mathlib.Omega.{arith}
use lib.ListN.{length, length-append}
use Rattle.rules.specs.Tools.{gather}
use Rattle.rules.specs.Bit.{count_of}
use Rattle.rules.specs.Point.{line_no, line_size, key_dir, key_no}
use Rattle.rules.specs.Grid.{row_on, rows_through, row_bytes, line_rows, key_rows, rows_in, rows_of, rows_on_point}
use Rattle.rules.specs.declared.Player.{Player}
use Rattle.rules.specs.declared.RowKind.{RowKind}
use Rattle.rules.proofs.Lists.{gather-count}

-- how many over several parts
unfoldable pub sum_of : ℕ → (ℕ → ℕ) → ℕ
sum_of zero f = 0
sum_of (suc n) f = sum_of n f + f n

parts-count : (n : ℕ) (f : ℕ → List ℕ) (count : ℕ → ℕ) → ((i : ℕ) → length (f i) ≡ count i * 4)
    → length (gather n f) ≡ sum_of n count * 4
unfolding gather sum_of
parts-count zero f count h = refl
parts-count (suc n) f count h =
    length-append (gather n f) (f n) ∙ ap₂ (λ (a b : ℕ). a + b) (parts-count n f count h) (h n) ∙ sym (add-mul (sum_of n count) (count n) 4)

-- the rows of one line
line-count : (r : Player) (k : RowKind) (cells : List ℕ) (d i : ℕ) (row : ℕ → Bool)
    → length (line_rows r k cells d i row) ≡ count_of (line_size d i) row * 4
unfolding line_rows row_bytes
line-count r k cells d i row = gather-count 4 (line_size d i) row (row_bytes r k cells d i) (λ j. refl)

fourth : (n m : ℕ) → n ≡ m * 4 → n / 4 ≡ m
fourth n m e = omega arith

pub rows-count : (r : Player) (k : RowKind) (cells : List ℕ)
    → length (rows_of r k cells) / 4
    ≡ sum_of 72 (λ key. count_of (line_size (key_dir key) (key_no key)) (row_on r k cells (key_dir key) (key_no key)))
unfolding rows_of
rows-count r k cells =
    fourth (length (gather 72 (key_rows r k cells))) _
    (parts-count 72 (key_rows r k cells) (λ key. count_of (line_size (key_dir key) (key_no key)) (row_on r k cells (key_dir key) (key_no key)))
    (λ key. line-count r k cells (key_dir key) (key_no key) (row_on r k cells (key_dir key) (key_no key))))

pub rows-on-count : (r : Player) (k : RowKind) (cells : List ℕ) (p : ℕ)
    → length (rows_on_point r k cells p) / 4 ≡ sum_of 4 (λ d. count_of (line_size d (line_no d p)) (rows_through r k cells p d))
unfolding rows_on_point
rows-on-count r k cells p =
    fourth (length (gather 4 (rows_in r k cells p))) _
    (parts-count 4 (rows_in r k cells p) (λ d. count_of (line_size d (line_no d p)) (rows_through r k cells p d))
    (λ d. line-count r k cells d (line_no d p) (rows_through r k cells p d)))
