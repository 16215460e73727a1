-- Laws of the codes that a list gives, and of the cells that are given back of a text: a refusal alone, or the cells that the codes of a
-- list make. Assumes nothing.
use mathlib.Core.Path.{◌≡◌, ap, ap₂, sym, ◌∙◌}
use mathlib.Core.Bool.{◌&&◌}
use mathlib.Core.List.{List, [], ◌∷◌}
use Prim.Native.Nat.{ℕ, zero, suc, ◌<◌, ◌≤◌}
use native.Mathlib.Nat.{le_of_suc-le-suc}
use native.Mathlib.Omega.{arith}
use lib.Dec.{leb, ltb, leb→le, ltb→lt, lt→ltb}
use lib.ListN.{length, get_or}
use borrow.Author.Tests.{eq-eqb}
use Rattle.rules.specs.Refusals.{first, unless}
use Rattle.rules.specs.Answers.{answer}
use Rattle.rules.proofs.Refusals.{first-none, none_first, passed, pass}
use Rattle.rules.proofs.Logic.{and_left, and_right, all-intro}
use Rattle.lent.specs.Slices.{find_at}
use Rattle.cells.specs.Cells.{codes_refusal, stones_cells}
use Rattle.text.specs.Bytes.{slash, trim, behind, text_refusal}
use Rattle.text.specs.Points.{column_in, row_in, place_refusal, item_refusal, item_code, items_refusal, item_codes, points_refusal, points_in}
use Rattle.text.specs.Reading.{black_list, white_list, slash_refusal, stones_text_refusal, stones_in, moves_in}
use Rattle.text.specs.Reading.{form_refusal, read_refusal, read_cells}
use Rattle.text.proofs.Places.{has-yes, has_no, has-not}

-- ---- codes of points
place-small : (x n : ℕ) → place_refusal x n ≡ 0 → (x < 15) × (1 ≤ n) × (n ≤ 15)
unfolding place_refusal
place-small x n e =
    let q = first-none (unless (ltb x 15) 3) (unless (leb 1 n && leb n 15) 4) e in
    let t = passed (leb 1 n && leb n 15) 3 q.1 in (
      ltb→lt x 15 (passed (ltb x 15) 2 q.0),
      leb→le 1 n (and_left (leb 1 n) (leb n 15) t),
      leb→le n 15
          (and_right (leb 1 n) (leb n 15) t),
    )

pub item-small : (s : List ℕ) → item_refusal s ≡ 0 → item_code s < 225
unfolding item_refusal item_code
item-small s e = let h = place-small (column_in s) (row_in s) e in omega (arith, h.0, h.1, h.2)

items-small : (ss : List (List ℕ)) → items_refusal ss ≡ 0 → (i : ℕ) → i < length (item_codes ss) → get_or (item_codes ss) i 0 < 225
unfolding items_refusal item_codes
items-small [] e i h = omega arith
items-small (s ∷ ss) e zero h = item-small s (first-none (item_refusal s) (items_refusal ss) e).0
items-small (s ∷ ss) e (suc i) h = items-small ss (first-none (item_refusal s) (items_refusal ss) e).1 i (le_of_suc-le-suc h)

pub points-good : (s : List ℕ) → points_refusal s ≡ 0 → codes_refusal (points_in s) ≡ 0
unfolding points_refusal points_in codes_refusal
points-good s e =
    pass _ 8 (all-intro _ _ (λ i h. lt→ltb (get_or (item_codes _) i 0) 225 (items-small _ e i h)))

-- ---- the stones of two lists, and a second slash, as a place of it tells
module _ (s part other rest : List ℕ) (e : (part ≡ black_list s) × (other ≡ white_list s) × (rest ≡ behind slash s)) (b w : ℕ)
    (hb : b ≡ points_refusal part) (hw : w ≡ points_refusal other) (m : ℕ) (em : m ≡ find_at slash rest) (lists extra refused : ℕ)
    (el : lists ≡ first b w) (ex : extra ≡ unless (leb (length rest) m) 3) (er : refused ≡ first lists extra) where
  lists-told : lists ≡ first (points_refusal (black_list s)) (points_refusal (white_list s))
  lists-told = el ∙ ap₂ first (hb ∙ ap points_refusal e.0) (hw ∙ ap points_refusal e.1)

  slash-told : extra ≡ slash_refusal s
  unfolding slash_refusal
  slash-told = ex ∙ rw (has-not slash m rest em, e.2)

  -- what is refused of the text
  pub stones-told : refused ≡ stones_text_refusal s
  unfolding stones_text_refusal
  stones-told = er ∙ ap₂ first lists-told slash-told

  -- .. and, where nothing is, the answer
  pub stones-said : refused ≡ 0 → (blacks whites : List ℕ) → blacks ≡ points_in part → whites ≡ points_in other
      → answer (first (codes_refusal blacks) (codes_refusal whites)) (stones_cells blacks whites) ≡ answer (stones_text_refusal s)
      (stones_in s)
  unfolding stones_in
  stones-said z blacks whites p q =
      let n = first-none b w (sym el ∙ (first-none lists extra (sym er ∙ z)).0) in
      ap₂ (λ (k : ℕ) (c : List ℕ). answer k c)
      (none_first (codes_refusal blacks) (codes_refusal whites) (ap codes_refusal p ∙ points-good part (sym hb ∙ n.0))
      (ap codes_refusal q ∙ points-good other (sym hw ∙ n.1))
      ∙ sym (sym stones-told ∙ z))
      (ap₂ stones_cells (p ∙ ap points_in e.0) (q ∙ ap points_in e.1))

-- ---- the refusals of any text come first
pub text-short : (s : List ℕ) → text_refusal s ≡ 0 → length s ≤ 4096
unfolding text_refusal
text-short s e =
    leb→le (length s) 4096 (passed (leb (length s) 4096) 0 (first-none (unless (leb (length s) 4096) 1) _ e).0)

-- ---- the whole reading, by a place of the first slash
module _ (s : List ℕ) (z : text_refusal s ≡ 0) (t : List ℕ) (et : t ≡ trim s) (n : ℕ) (en : n ≡ find_at slash s) where
  -- there is one: the text is stones
  pub read-stones : n < length s → answer (stones_text_refusal t) (stones_in t) ≡ answer (read_refusal s) (read_cells s)
  unfolding read_refusal form_refusal read_cells first
  read-stones p = rw (eq-eqb (text_refusal s) 0 z, has-yes slash s (omega arith), et)

  -- there is none: it is moves
  pub read-moves : length s ≤ n → answer (points_refusal t) (moves_in t) ≡ answer (read_refusal s) (read_cells s)
  unfolding read_refusal form_refusal read_cells first
  read-moves p = rw (eq-eqb (text_refusal s) 0 z, has_no slash s (omega arith), et)
