-- How long the texts are. Assumes nothing.
use mathlib.Core.Path.{◌≡◌, refl, ap, ◌∙◌}
use mathlib.Core.Bool.{Bool, true, false}
use mathlib.Core.Logic.{◌⊎◌, inl, inr}
use mathlib.Core.List.{List, [], ◌∷◌, ◌++◌}
use Prim.Native.Nat.{ℕ, zero, suc, ◌+◌, ◌-◌, ◌*◌, ◌/◌, ◌%◌, ◌≤◌, ◌<◌}
use native.Mathlib.Omega.{arith}
use lib.Dec.{leb, ltb}
use lib.ListN.{length, length-append}
use borrow.Author.Tests.{ltb-true, ltb-false, lt-ltb, le-leb, lt-leb}
use Rattle.rules.specs.Point.{x_of, y_of}
use Rattle.rules.specs.Tools.{gather, only}
use Rattle.rules.proofs.Logic.{decide}
use Rattle.lent.proofs.Laws.{gather-more, only-length}
use Rattle.line.specs.declared.line.Line.{Line}
use Rattle.line.specs.Lines.{blacks, whites}
use Rattle.text.specs.Bytes.{newline, blank, comma, dash, bar, capital_a}
use Rattle.display.specs.Texts.{digit_text, number_text, right_aligned, point_text, item_text, values_of, cell_text, line_text, text_of_line}
use Rattle.display.specs.Texts.{letter_or, row_text, barred, bar_before, segment_text, plain_row, diagram_of, numbered_row, columns_text, numbered_of}

-- as many bytes in each part
gather-size : (k n : ℕ) (f : ℕ → List ℕ) → ((i : ℕ) → i < n → length (f i) ≡ k) → length (gather n f) ≡ n * k
unfolding gather
gather-size k zero f h = omega arith
gather-size k (suc n) f h =
    rw (length-append (gather n f) (f n)) (omega (arith, gather-size k n f (λ i l. h i (omega arith)), h n (omega arith)))

-- the next part fits where the whole does
pub part-fits : (f : ℕ → List ℕ) (i n : ℕ) → i < n → length (gather i f) + length (f i) ≤ length (gather n f)
unfolding gather
part-fits f i zero h = omega arith
part-fits f i (suc n) h = go (decide (ltb i n)) (part-fits f i n)
  where
    go : (ltb i n ≡ true) ⊎ (ltb i n ≡ false) → (i < n → length (gather i f) + length (f i) ≤ length (gather n f))
        → length (gather i f) + length (f i) ≤ length (gather n f ++ f n)
    go (inl e) g = rw (length-append (gather n f) (f n)) (omega (arith, g (ltb-true i n e)))
    go (inr e) g =
        let le = ltb-false i n e in
        let same : i ≡ n = omega arith in
        rw (same, length-append (gather n f) (f n)) (omega arith)

-- ---- numbers and points

pub number_short : (n : ℕ) → length (number_text n) ≤ 3
unfolding number_text
number_short n =
    let a = only (leb 100 n) (digit_text (n / 100)) in
    let b = only (leb 10 n) (digit_text (n / 10 % 10)) in
    let x = length-append (a ++ b) (digit_text (n % 10)) in
    let y = length-append a b in
    omega (arith, only-length (leb 100 n) (digit_text (n / 100)), only-length (leb 10 n) (digit_text (n / 10 % 10)))

pub point-short : (code : ℕ) → length (point_text code) ≤ 4
unfolding point_text
point-short code =
    let text = (capital_a + x_of code) ∷ number_text (y_of code + 1) in
    omega (arith, only-length (ltb code 225) text, number_short (y_of code + 1))

pub item-short : (behind : Bool) (code : ℕ) → length (item_text behind code) ≤ 5
unfolding item_text
item-short behind code =
    let e = length-append (only behind (comma ∷ [])) (point_text code) in
    omega (arith, only-length behind (comma ∷ []), point-short code)

-- a number below 100 takes two places
pub right_two : (n : ℕ) → n < 100 → length (right_aligned n) ≡ 2
unfolding right_aligned number_text
right_two n h = go (decide (ltb n 10))
  where
    go : (ltb n 10 ≡ true) ⊎ (ltb n 10 ≡ false)
        → length (only (ltb n 10) (blank ∷ [])
        ++ (only (leb 100 n) (digit_text (n / 100)) ++ only (leb 10 n) (digit_text (n / 10 % 10)) ++ digit_text (n % 10))) ≡ 2
    go (inl e) = let l = ltb-true n 10 e in rw (e, lt-leb 100 n h, lt-leb 10 n l)
    go (inr e) = let l = ltb-false n 10 e in rw (e, lt-leb 100 n h, le-leb 10 n l)

-- ---- lines and segments

pub line-length : (size : ℕ) (value : ℕ → ℕ) → length (line_text size value) ≡ size * 2
unfolding line_text
line-length size value = gather-size 2 size (cell_text value) (λ i h. refl)

pub line-short : (l : Line) → l.size ≤ 15 → length (text_of_line l) ≤ 30
unfolding text_of_line
line-short l h = omega (arith, line-length l.size (values_of (blacks l) (whites l)))

pub barred-short : (k value : ℕ) → length (barred k value) ≤ 2
unfolding barred
barred-short k value =
    let e = length-append (only (bar_before k) (bar ∷ [])) (letter_or dash value ∷ []) in
    omega (arith, only-length (bar_before k) (bar ∷ []))

pub segment-length : (value : ℕ → ℕ) → length (segment_text value) ≡ 9
unfolding segment_text gather barred bar_before
segment-length value = refl

-- ---- diagrams

pub row_length : (cells : List ℕ) (y : ℕ) → length (row_text cells y) ≡ 30
unfolding row_text
row_length cells y = line-length 15 _

-- a row that another follows
plain-row-length : (cells : List ℕ) (k : ℕ) → k < 14 → length (plain_row cells k) ≡ 31
unfolding plain_row
plain-row-length cells k h =
    rw (lt-ltb k 14 h) (length-append (row_text cells (14 - k)) (newline ∷ []) ∙ ap (λ (n : ℕ). n + 1) (row_length cells (14 - k)))

last-row-length : (cells : List ℕ) → length (plain_row cells 14) ≡ 30
unfolding plain_row
last-row-length cells = length-append (row_text cells 0) [] ∙ ap (λ (n : ℕ). n + 0) (row_length cells 0)

pub plain-row-short : (cells : List ℕ) (k : ℕ) → length (plain_row cells k) ≤ 31
unfolding plain_row
plain-row-short cells k =
    let e = length-append (row_text cells (14 - k)) (only (ltb k 14) (newline ∷ [])) in
    omega (arith, row_length cells (14 - k), only-length (ltb k 14) (newline ∷ []))

-- "464 bytes"
pub diagram-length : (cells : List ℕ) → length (diagram_of cells) ≡ 464
unfolding diagram_of
diagram-length cells =
    let e = ap length (gather-more 14 (plain_row cells)) in
    let a = length-append (gather 14 (plain_row cells)) (plain_row cells 14) in
    omega (arith, gather-size 31 14 (plain_row cells) (plain-row-length cells), last-row-length cells)

numbered-row-length : (cells : List ℕ) (k : ℕ) → k < 15 → length (numbered_row cells k) ≡ 33
unfolding numbered_row
numbered-row-length cells k h =
    let a = right_aligned (15 - k) in
    let b = row_text cells (14 - k) in
    let x = length-append (a ++ b) (newline ∷ []) in
    let y = length-append a b in
    omega (arith, right_two (15 - k) (omega arith), row_length cells (14 - k))

-- the rows above row k
pub numbered-rows-length : (cells : List ℕ) (n : ℕ) → n ≤ 15 → length (gather n (numbered_row cells)) ≡ n * 33
numbered-rows-length cells n h = gather-size 33 n (numbered_row cells) (λ k l. numbered-row-length cells k (omega arith))

columns-length : length columns_text ≡ 32
unfolding columns_text gather
columns-length = refl

-- "The numbered form is 527 bytes"
pub numbered-length : (cells : List ℕ) → length (numbered_of cells) ≡ 527
unfolding numbered_of
numbered-length cells =
    let e = length-append (gather 15 (numbered_row cells)) columns_text in
    omega (arith, numbered-rows-length cells 15 (omega arith), columns-length)
