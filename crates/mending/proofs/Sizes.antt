-- How long the two lines are, and the first of them in a buffer with room for it. Assumes nothing.
use mathlib.Core.Path.{◌≡◌, refl, ap, ap₂, ◌∙◌}
use mathlib.Core.List.{List, [], ◌∷◌, ◌++◌}
use Prim.Native.Nat.{ℕ, ◌+◌, ◌*◌, ◌≤◌}
use native.Mathlib.Omega.{arith}
use lib.ListN.{length, length-append, get_or, take, drop}
use lib.Seq.{take_at}
use Rattle.std.specs.Prelude.{Result}
use Rattle.std.specs.Result.{result_unwrap_or}
use Rattle.rules.specs.Answers.{answer}
use Rattle.rules.specs.declared.refusal.Refusal.{Refusal}
use borrow.Author.Tests.{le-leb}
use Rattle.rules.specs.Refusals.{first, unless}
use Rattle.lent.specs.Lists.{zeros, fits, kept, laid, list_refusal, list_out}
use Rattle.lent.proofs.Laws.{gather-length, kept_lem, length-zeros}
use Rattle.cells.specs.Cells.{codes_refusal}
use Rattle.text.specs.Bytes.{newline, blank}
use Rattle.display.specs.Answers.{written}
use Rattle.display.specs.Texts.{number_text, point_item, points_text}
use Rattle.display.proofs.Sizes.{number_short, item-short}
use Rattle.mending.specs.Mending.{slip_line, two_lines}

pub list-short : (codes : List ℕ) → length (points_text codes) ≤ length codes * 5
unfolding points_text
list-short codes = gather-length 5 (length codes) (point_item codes) (λ i _. item-short _ (get_or codes i 0))

pub slip-short : (item reason : ℕ) → length (slip_line item reason) ≤ 8
unfolding slip_line
slip-short item reason =
    let a = length-append (number_text item) (blank ∷ []) in
    let b = length-append (number_text item ++ (blank ∷ [])) (number_text reason) in
    let d = length-append (number_text item ++ (blank ∷ []) ++ number_text reason) (newline ∷ []) in
    omega (arith, number_short item, number_short reason)

pub lines-short : (codes : List ℕ) (item reason : ℕ) → length codes ≤ 225 → length (two_lines codes item reason) ≤ 1152
unfolding two_lines
lines-short codes item reason h =
    let a = length-append (points_text codes) (newline ∷ []) in
    let b = length-append (points_text codes ++ (newline ∷ [])) (slip_line item reason) in
    omega (arith, list-short codes, slip-short item reason)

-- the list at the front of a fresh buffer
module _ (codes : List ℕ) (h : length codes ≤ 225) (e : codes_refusal codes ≡ 0) where
  fit : length (points_text codes) ≤ length (zeros 1125)
  fit = omega (arith, list-short codes, length-zeros 1125)

  room : list_refusal (codes_refusal codes) (zeros 1125) (points_text codes) ≡ 0
  unfolding list_refusal fits first unless
  room = rw (e, le-leb (length (points_text codes)) (length (zeros 1125)) fit)

  -- .. as it is taken from there
  pub list-taken : (answer : Result ℕ Refusal) (n : ℕ) (buf taken : List ℕ)
      → (answer ≡ written (codes_refusal codes) (zeros 1125) (points_text codes))
      × (buf ≡ list_out (codes_refusal codes) (zeros 1125) (points_text codes))
      → n ≡ result_unwrap_or answer 0 → taken ≡ take n buf → taken ≡ points_text codes
  unfolding list_out written answer laid
  list-taken answer n buf taken k en et =
      let told : n ≡ length (points_text codes) = en ∙ ap (λ (r : Result ℕ Refusal). result_unwrap_or r 0) k.0 ∙ rw room in
      et ∙ ap₂ take told (k.1 ∙ rw room)
      ∙ take_at (points_text codes) (drop (length (points_text codes)) (zeros 1125)) (length (points_text codes)) refl

-- ---- a line kept part by part, and both
pub slip-put : (item reason : ℕ) (x y a b d e : List ℕ) → x ≡ number_text item → y ≡ number_text reason → a ≡ kept 8 [] x
    → b ≡ kept 8 a (blank ∷ []) → d ≡ kept 8 b y → e ≡ kept 8 d (newline ∷ []) → e ≡ slip_line item reason
unfolding slip_line
slip-put item reason x y a b d e ex ey ka kb kd ke =
    let i = number_short item in
    let r = number_short reason in
    let lx = ap length ex in
    let ly = ap length ey in
    let pa : a ≡ x = ka ∙ kept_lem 8 [] x (omega arith) in
    let la = ap length pa in
    let pb : b ≡ a ++ (blank ∷ []) = kb ∙ kept_lem 8 a (blank ∷ []) (omega arith) in
    let lb = ap length pb ∙ length-append a (blank ∷ []) in
    let pd : d ≡ b ++ y = kd ∙ kept_lem 8 b y (omega arith) in
    let ld = ap length pd ∙ length-append b y in
    let pe : e ≡ d ++ (newline ∷ []) = ke ∙ kept_lem 8 d (newline ∷ []) (omega arith) in
    rw (pe, pd, pb, pa, ex, ey)

pub lines-put : (codes : List ℕ) (item reason : ℕ) → length codes ≤ 225 → (x y a b d : List ℕ) → x ≡ points_text codes
    → y ≡ slip_line item reason → a ≡ kept 1152 [] x → b ≡ kept 1152 a (newline ∷ []) → d ≡ kept 1152 b y
    → d ≡ two_lines codes item reason
unfolding two_lines
lines-put codes item reason h x y a b d ex ey ka kb kd =
    let p = list-short codes in
    let q = slip-short item reason in
    let lx = ap length ex in
    let ly = ap length ey in
    let pa : a ≡ x = ka ∙ kept_lem 1152 [] x (omega arith) in
    let la = ap length pa in
    let pb : b ≡ a ++ (newline ∷ []) = kb ∙ kept_lem 1152 a (newline ∷ []) (omega arith) in
    let lb = ap length pb ∙ length-append a (newline ∷ []) in
    let pd : d ≡ b ++ y = kd ∙ kept_lem 1152 b y (omega arith) in
    rw (pd, pb, pa, ex, ey)
