-- How long the lines of a listing are. Assumes nothing.
use mathlib.Core.Bool.{Bool, true, false, cond}
use mathlib.Core.List.{List, [], ◌∷◌, ◌++◌}
use Prim.Native.Nat.{ℕ, ◌*◌, ◌/◌, ◌≤◌}
use native.Mathlib.Omega.{arith}
use lib.Dec.{eqb}
use lib.ListN.{length, length-append}
use Rattle.rules.specs.Tools.{gather}
use Rattle.lent.proofs.Laws.{gather-length}
use Rattle.text.specs.Bytes.{newline, blank}
use Rattle.display.specs.Texts.{number_text, point_text}
use Rattle.display.proofs.Sizes.{number_short, point-short}
use Rattle.report.specs.Listing.{forbidden_word, list_text}
use Rattle.report.specs.Listing.{double_three, double_four, overline, kind_text, point_line, count_text, pair_text, lines_text}

-- ---- lengths
pub number_few : (n : ℕ) → length (number_text n) ≤ 3
number_few n = number_short n

pub point_few : (code : ℕ) → length (point_text code) ≤ 4
point_few code = point-short code

pub kind_few : (kind : ℕ) → length (kind_text kind) ≤ 11
unfolding kind_text double_three double_four overline
kind_few kind = go (eqb kind 1) (eqb kind 2)
  where
    go : (t u : Bool) → length (cond t double_three (cond u double_four overline)) ≤ 11
    go true u = omega arith
    go false true = omega arith
    go false false = omega arith

pub line_short : (kind code : ℕ) → length (point_line kind code) ≤ 17
unfolding point_line
line_short kind code =
    let a = length-append (point_text code) (blank ∷ []) in
    let b = length-append (point_text code ++ (blank ∷ [])) (kind_text kind) in
    let d = length-append (point_text code ++ (blank ∷ []) ++ kind_text kind) (newline ∷ []) in
    omega (arith, point_few code, kind_few kind)

pub lines_short : (pairs : List ℕ) (n : ℕ) → length (gather n (pair_text pairs)) ≤ n * 17
lines_short pairs n = gather-length 17 n (pair_text pairs) (λ i _. line_short _ _)

pub count-short : (word : List ℕ) (n : ℕ) → length word ≤ 10 → length (count_text word n) ≤ 14
unfolding count_text
count-short word n h =
    let a = length-append word (number_text n) in
    let b = length-append (word ++ number_text n) (newline ∷ []) in
    omega (arith, number_few n)

-- ---- the whole of a list of at most 225 pairs
pub listing-fits : (list : List ℕ) → length list ≤ 450 → length (list_text list) ≤ 3840
unfolding list_text lines_text forbidden_word
listing-fits list h =
    let n = length list / 2 in
    let a = length-append (lines_text list n) (count_text forbidden_word n) in
    omega (arith, lines_short list n, count-short forbidden_word n (omega arith))
