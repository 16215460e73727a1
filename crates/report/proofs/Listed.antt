-- The list that the referee writes into a buffer with room for every point: how many pairs it has, and their lines. Assumes nothing.
use mathlib.Core.Path.{◌≡◌, ap, ap₂, sym, ◌∙◌}
use mathlib.Core.List.{List, ◌++◌}
use mathlib.Core.Bool.{true, false}
use mathlib.Core.Logic.{◌⊎◌, inl, inr}
use lib.Dec.{eqb}
use Rattle.std.specs.Prelude.{Result, Ok, Err}
use Rattle.std.specs.Result.{result_unwrap_or}
use Rattle.rules.proofs.Logic.{decide, no_true}
use Rattle.report.proofs.Named.{named_back, read_named}
use Prim.Native.Nat.{ℕ, ◌+◌, ◌*◌, ◌/◌, ◌≤◌}
use native.Mathlib.Omega.{arith}
use lib.ListN.{length, drop, get_or-append}
use borrow.Author.Tests.{eq-eqb, le-leb}
use Rattle.rules.specs.Refusals.{first, unless}
use Rattle.rules.specs.Answers.{answer, refusal_no, refusal_named}
use Rattle.rules.specs.declared.refusal.Refusal.{Refusal}
use Rattle.rules.specs.Forbidden.{strict_of, entry, forbidden_list}
use Rattle.rules.specs.declared.Verdict.{Verdict}
use Rattle.rules.specs.declared.Verdict.TheVariants.{None, DoubleThree, DoubleFour, Overline}
use Rattle.rules.proofs.Lists.{gather_cong}
use Rattle.lent.specs.Lists.{fits, laid, list_refusal, list_out, counted, zeros}
use Rattle.lent.proofs.Laws.{gather-length, length-zeros}
use Rattle.board.specs.Answers.{board_answer}
use Rattle.board.specs.Boards.{cells, board_of, board_refusal}
use Rattle.board.proofs.Given.{made-refusal, made-sound, made_cells}
use Rattle.board.specs.declared.board.Board.{Board}
use Rattle.text.specs.Reading.{read_refusal, read_cells}
use Rattle.text.proofs.Sound.{read_ok}
use Rattle.report.specs.Listing.{point_line, pair_text, lines_text, refused_word, count_text, list_text, listing_of}

entry-short : (v : Verdict) (p : ℕ) → length (entry v p) ≤ 2
entry-short None p = omega arith
entry-short DoubleThree p = omega arith
entry-short DoubleFour p = omega arith
entry-short Overline p = omega arith

pub forbidden-short : (c : List ℕ) → length (forbidden_list c) ≤ 450
unfolding forbidden_list
forbidden-short c = omega (arith, gather-length 2 225 (λ p. entry (strict_of c p) p) (λ p _. entry-short (strict_of c p) p))

module _ (refused : ℕ) (list : List ℕ) (none : refused ≡ 0) (short : length list ≤ 450) where
  room : list_refusal refused (zeros 450) list ≡ 0
  unfolding list_refusal fits first unless
  room = rw (none, le-leb (length list) (length (zeros 450)) (omega (arith, length-zeros 450)))

  pub listed-count : {found : Result ℕ Refusal} → found ≡ counted 2 refused (zeros 450) list → result_unwrap_or found 0 ≡ length list / 2
  unfolding counted answer
  listed-count e = rw (e, room)

  pub listed-lines : (pairs : List ℕ) → pairs ≡ list_out refused (zeros 450) list
      → lines_text pairs (length list / 2) ≡ lines_text list (length list / 2)
  unfolding list_out laid lines_text
  listed-lines pairs e =
      rw (e, room)
      (gather_cong (length list / 2) (pair_text (list ++ drop (length list) (zeros 450))) (pair_text list)
      (λ i h. ap₂ point_line (get_or-append list (drop (length list) (zeros 450)) 0 (2 * i) (omega arith))
      (get_or-append list (drop (length list) (zeros 450)) 0 (2 * i + 1) (omega arith))))

-- ---- the listing of a text, by what reading it answered
module _ (s : List ℕ) {r : Result Board Refusal} (e : r ≡ board_answer (read_refusal s) (read_cells s)) where
  pub listing-refused : {x : Refusal} → r ≡ Err x → count_text refused_word (refusal_no x) ≡ listing_of s
  unfolding listing_of board_answer answer
  listing-refused {x} k = go (decide (eqb (read_refusal s) 0))
    where
      go : (eqb (read_refusal s) 0 ≡ true) ⊎ (eqb (read_refusal s) 0 ≡ false) → count_text refused_word (refusal_no x) ≡ listing_of s
      go (inl t) = let z : Ok (board_of (read_cells s)) ≡ Err x = rw (t) at (sym e ∙ k) in cc
      go (inr t) =
          let z : Err (refusal_named (read_refusal s)) ≡ Err x = rw (t) at (sym e ∙ k) in
          let named : refusal_named (read_refusal s) ≡ x = cc in
          rw (t, ← named)
          (ap (count_text refused_word) (named_back (read_refusal s) (λ n. no_true (sym t ∙ eq-eqb (read_refusal s) 0 n)) (read_named s)))

  module _ {b : Board} (given : r ≡ Ok b) where
    read-none : read_refusal s ≡ 0
    read-none = made-refusal (read_refusal s) (read_cells s) e given

    pub read-good : board_refusal b ≡ 0
    read-good = made-sound (read_refusal s) (read_cells s) e given (λ _. read_ok s)

    pub listing-read : list_text (forbidden_list (cells b)) ≡ listing_of s
    unfolding listing_of
    listing-read =
        ap (λ (l : List ℕ). list_text (forbidden_list l)) (made_cells (read_refusal s) (read_cells s) e given (λ _. read_ok s))
        ∙ rw (eq-eqb (read_refusal s) 0 read-none)
