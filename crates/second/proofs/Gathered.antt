-- What the lists gather: the bytes of a row, the items of a line, and how long a line's part can be. Assumes nothing.
use mathlib.Core.Path.{◌≡◌, refl, sym}
use mathlib.Core.Bool.{Bool, true, false, cond}
use mathlib.Core.List.{List, [], ◌∷◌}
use Prim.Native.Nat.{ℕ, ◌+◌, ◌*◌, ◌≤◌, ◌<◌}
use native.Mathlib.Nat.{add-zero}
use native.Mathlib.Numerals.{add-one}
use native.Mathlib.Omega.{arith}
use lib.ListN.{length}
use Rattle.rules.specs.Tools.{any_below, gather, only}
use Rattle.rules.specs.Bit.{digit, mask_of}
use Rattle.rules.specs.Point.{line_no, line_size, point_at}
use Rattle.rules.specs.Grid.{row_bytes, line_rows, four_eye, eyes_in}
use Rattle.rules.specs.declared.Player.{Player}
use Rattle.rules.specs.declared.RowKind.{RowKind}
use Rattle.rules.proofs.Logic.{T_true, true-T, any-intro}
use Rattle.rules.proofs.Address.{size-le}
use Rattle.lent.proofs.Laws.{short}
use Rattle.second.specs.Lists.{rows_asked}

-- ---- five cells as a mask

worth-digit : (b : Bool) (v : ℕ) → cond b v 0 ≡ digit b * v
worth-digit true v = omega arith
worth-digit false v = omega arith

pub five-worth : (f : ℕ → Bool) (j : ℕ)
    → cond (f j) 1 0 + cond (f (j + 1)) 2 0 + cond (f (j + 2)) 4 0 + cond (f (j + 3)) 8 0 + cond (f (j + 4)) 16 0 ≡ mask_of 5
    (λ k. f (j + k))
unfolding mask_of
five-worth f j =
    rw (add-zero j)
    (omega (
      arith,
      worth-digit (f j) 1,
      worth-digit (f (j + 1)) 2,
      worth-digit (f (j + 2)) 4,
      worth-digit (f (j + 3)) 8,
      worth-digit (f (j + 4)) 16,
    ))

-- ---- a search over the starts of a line

pub any_none : (f : ℕ → Bool) → any_below 0 f ≡ false
unfolding any_below
any_none f = refl

pub any-more : (f : ℕ → Bool) (j : ℕ) → any_below j f ≡ false → f j ≡ false → any_below (j + 1) f ≡ false
unfolding any_below
any-more f j e z = rw (add-one j, z, e)

pub any_found : (n : ℕ) (f : ℕ → Bool) (j : ℕ) → j < n → f j ≡ true → true ≡ any_below n f
any_found n f j h e = sym (T_true (any-intro n f j h (true-T e)))

-- ---- the parts of a list, line by line

abbrev pub row_item : Player → RowKind → List ℕ → ℕ → ℕ → Bool → ℕ → List ℕ
row_item r k cells p d only_through j = only (rows_asked r k cells p d only_through j) (row_bytes r k cells d (line_no d p) j)

abbrev pub eye_item : Player → List ℕ → ℕ → ℕ → ℕ → List ℕ
eye_item r cells p d i = only (four_eye r cells p d i) (point_at d (line_no d p) i ∷ [])

pub four_bytes : (r : Player) (k : RowKind) (cells : List ℕ) (d i j : ℕ) → length (row_bytes r k cells d i j) ≡ 4
unfolding row_bytes
four_bytes r k cells d i j = refl

pub rows-so-far : (r : Player) (k : RowKind) (cells : List ℕ) (p d : ℕ) (b : Bool) (j : ℕ) → length
    (gather j (row_item r k cells p d b)) ≤ j * 4
rows-so-far r k cells p d b j =
    short 4 (rows_asked r k cells p d b) (row_bytes r k cells d (line_no d p)) (λ i. let l = four_bytes r k cells d
    (line_no d p) i in omega arith) j

pub rows_short : (r : Player) (k : RowKind) (cells : List ℕ) (d i : ℕ) (row : ℕ → Bool) → length (line_rows r k cells d i row) ≤ 60
unfolding line_rows
rows_short r k cells d i row =
    let a = short 4 row (row_bytes r k cells d i) (λ j. let l = four_bytes r k cells d i j in omega arith) (line_size d i) in
    let b = size-le d i in
    omega arith

pub eyes-so-far : (r : Player) (cells : List ℕ) (p d i : ℕ) → length (gather i (eye_item r cells p d)) ≤ i
eyes-so-far r cells p d i =
    let a = short 1 (four_eye r cells p d) (λ e. point_at d (line_no d p) e ∷ []) (λ e. omega arith) i in
    omega arith

pub eyes-short : (r : Player) (cells : List ℕ) (p d : ℕ) → length (eyes_in r cells p d) ≤ 15
eyes-short r cells p d = let a = eyes-so-far r cells p d (line_size d (line_no d p)) in let b = size-le d (line_no d p) in omega arith
