-- What holds of every mended list (document 02, No. 12): no point twice; mended again all of it is kept; the live entry reads it as a board
-- with as many stones. Assumes nothing.
use mathlib.Core.Path.{◌≡◌, refl, sym, ap, ◌∙◌}
use mathlib.Core.Bool.{false, not}
use mathlib.Core.List.{List, [], ◌∷◌}
use Prim.Native.Nat.{ℕ, ◌+◌, ◌≤◌, ◌<◌}
use native.Mathlib.Omega.{arith}
use lib.Dec.{eqb}
use lib.ListN.{length, get_or}
use borrow.Author.Tests.{ne_eqb, le-ltb}
use Rattle.rules.specs.Refusals.{first}
use Rattle.rules.specs.Bit.{count_of}
use Rattle.rules.specs.Grid.{is_empty}
use Rattle.rules.proofs.Refusals.{first-none}
use Rattle.cells.specs.Cells.{moves_cells}
use Rattle.text.specs.Bytes.{comma, slash, digit_zero, capital_a, trim, has, parts, text_refusal}
use Rattle.text.specs.Points.{points_refusal, points_in, leading_in, list_text_refusal}
use Rattle.text.specs.Reading.{moves_in, form_refusal, read_refusal, read_cells}
use Rattle.text.proofs.Items.{codes_all}
use Rattle.display.specs.Texts.{points_text}
use Rattle.display.proofs.PointBack.{Points, list-trim, list-good, list_read, list_back, list-has}
use Rattle.display.proofs.Shown.{all-has}
use Rattle.mending.specs.Mending.{kept_of, reason_of, once_of}
use Rattle.mending.proofs.Once.{Once, once-all, once-short, stones-played}
use Rattle.mending.proofs.Moves.{kept-once, why-slip, kept-points, kept-none-twice}
use Rattle.mending.proofs.Sizes.{list-short}

-- ---- a written list of points, none of them twice, that is not empty

module _ (c : ℕ) (codes : List ℕ) (o : Once (c ∷ codes)) (h : Points (c ∷ codes)) where
  text : List ℕ
  text = points_text (c ∷ codes)

  low : length text ≤ 4096
  unfolding text
  low = omega (arith, list-short (c ∷ codes), once-short (c ∷ codes) o h)

  not-refused : text_refusal text ≡ 0
  unfolding text list_text_refusal
  not-refused = (first-none (text_refusal (points_text (c ∷ codes))) (points_refusal (points_text (c ∷ codes))) (list_read c codes h low)).0

  read_whole : leading_in text ≡ c ∷ codes
  unfolding text leading_in points_in points_refusal
  read_whole = codes_all (parts comma (trim (points_text (c ∷ codes)))) (list-good c codes h) ∙ list_back c codes h

  -- all of it is kept, and nothing slips
  all-kept : kept_of text ≡ c ∷ codes
  all-kept = kept-once text ∙ ap once_of read_whole ∙ once-all (c ∷ codes) o

  none-slips : reason_of text ≡ 0
  unfolding text
  none-slips =
      let same : length (once_of (leading_in text)) ≡ length (leading_in text) =
      ap length (ap once_of read_whole ∙ once-all (c ∷ codes) o ∙ sym read_whole) in
      why-slip text ∙ rw (le-ltb (length (once_of (leading_in text))) (length (leading_in text)) (omega (arith, same))) (list-good c codes h)

  -- a digit's byte is 48 to 57, a slash 47
  digit-apart : (d : ℕ) → d < 10 → eqb (digit_zero + d) slash ≡ false
  digit-apart d l = ne_eqb (digit_zero + d) slash (λ e. omega arith)

  no_slash : has slash text ≡ false
  unfolding text
  no_slash =
      all-has slash (points_text (c ∷ codes))
      (list-has (λ b. eqb b slash ≡ false) (λ x l. ne_eqb (capital_a + x) slash (λ e. omega arith)) (λ d l. digit-apart d l) refl
      (c ∷ codes) h)

-- ---- of the list that is kept

-- "Mending the kept list again keeps all of it": the text of the kept list, where that is not empty, is not refused, is kept whole and has no
-- slip
pub record MendedAgain (kept : List ℕ) : Type 0 where
  pub read : text_refusal (points_text kept) ≡ 0
  pub whole : kept_of (points_text kept) ≡ kept
  pub clean : reason_of (points_text kept) ≡ 0

again : (kept : List ℕ) → Once kept → Points kept → 0 < length kept → MendedAgain kept
unfolding text
again [] o h k = absurd (omega arith)
again (c ∷ codes) o h k =
    record { read = not-refused c codes o h; whole = all-kept c codes o h; clean = none-slips c codes o h }

-- The live entry reads the kept list as the board of its moves, with a stone for each.
pub record ReadLive (kept : List ℕ) : Type 0 where
  pub read : read_refusal (points_text kept) ≡ 0
  pub board : read_cells (points_text kept) ≡ moves_cells kept
  pub stones : count_of 225 (λ p. not (is_empty (get_or (read_cells (points_text kept)) p 0))) ≡ length kept

live : (kept : List ℕ) → Once kept → Points kept → 0 < length kept → ReadLive kept
unfolding read_refusal read_cells form_refusal moves_in first text
live [] o h k = absurd (omega arith)
live (c ∷ codes) o h k =
    let t = points_text (c ∷ codes) in
    let slash-out = no_slash c codes o h in
    let trims = list-trim c codes h in
    let board : read_cells t ≡ moves_cells (c ∷ codes) = rw (slash-out, trims) (ap moves_cells (list_back c codes h)) in
    record {
      read = rw (slash-out, trims, list-good c codes h, not-refused c codes o h);
      board = board;
      stones = rw board (stones-played (c ∷ codes) o h);
    }

-- ---- THE THEOREMS, of every text

module _ (s : List ℕ) where
  -- the kept list has no point twice
  pub no-point-twice : Once (kept_of s)
  no-point-twice = kept-none-twice s

  pub mended-again : 0 < length (kept_of s) → MendedAgain (kept_of s)
  mended-again k = again (kept_of s) (kept-none-twice s) (kept-points s) k

  pub read_live : 0 < length (kept_of s) → ReadLive (kept_of s)
  read_live k = live (kept_of s) (kept-none-twice s) (kept-points s) k

  -- whatever its length, as many stones are on the board of its moves
  pub as-many-stones : count_of 225 (λ p. not (is_empty (get_or (moves_cells (kept_of s)) p 0))) ≡ length (kept_of s)
  as-many-stones = stones-played (kept_of s) (kept-none-twice s) (kept-points s)
