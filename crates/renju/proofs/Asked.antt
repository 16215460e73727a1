-- A question asked of cell bytes is asked of their board: it is refused alike, and the board has these cells. Assumes nothing.
use mathlib.Core.Path.{◌≡◌, refl, ap, ap₂, sym, ◌∙◌}
use mathlib.Core.Bool.{Bool, true, false}
use mathlib.Core.List.{List}
use Prim.Native.Nat.{ℕ, ◌*◌, ◌/◌, ◌≤◌}
use lib.Dec.{eqb}
use lib.ListN.{length}
use borrow.Author.Tests.{ne_eqb, eq-eqb, eqb-false}
use Rattle.std.specs.Prelude.{Result, Ok, Err}
use Rattle.rules.specs.Refusals.{first}
use Rattle.rules.specs.Answers.{answer, refusal_no, refusal_named}
use Rattle.rules.specs.declared.refusal.Refusal.{Refusal}
use Rattle.lent.specs.Lists.{list_refusal, list_out, counted}
use Rattle.lent.proofs.Laws.{kept_out}
use Rattle.board.specs.Answers.{board_answer}
use Rattle.board.specs.Boards.{cells, board_of}
use Rattle.board.specs.declared.board.Board.{Board}
use Rattle.board.proofs.Given.{made-refusal, made-refused, made-board, made_cells}
use Rattle.renju.specs.Answers.{word, word_of, list_word, refusal_of}
use Rattle.renju.proofs.Named.{cells_named, named_back}
use Rattle.renju.proofs.Words.{word_given, list_given}
use Rattle.cells.specs.Cells.{cells_refusal}
use Rattle.cells.proofs.Given.{cells_in}

-- a refusal that is given stays the first one
pub first-given : {a told : ℕ} → a ≡ told → (told ≡ 0 → ⊥) → (b : ℕ) → first a b ≡ told
unfolding first
first-given {a} e given b = rw (ne_eqb a 0 (λ z. given (sym e ∙ z))) e

module _ (c : List ℕ) {m : Result Board Refusal} (e : m ≡ board_answer (cells_refusal c) c) where
  -- ---- cell bytes that are no board's: 9, before all else

  module _ {x : Refusal} (is : m ≡ Err x) where
    told : (cells_refusal c ≡ 0 → ⊥) × (x ≡ refusal_named (cells_refusal c))
    told = made-refused (cells_refusal c) c e is

    number : refusal_no x ≡ cells_refusal c
    number = ap refusal_no told.1 ∙ named_back (cells_refusal c) told.0 (cells_named c)

    module _ (question : Board → ℕ) where
      nine : refusal_of c question ≡ cells_refusal c
      unfolding refusal_of
      nine = first-given refl told.0 _

      pub refused-asked : refusal_of c question ≡ refusal_no x
      refused-asked = nine ∙ sym number

      pub refused_word : {r : ℕ} (n : ℕ) → r ≡ refusal_no x * 65536 → r ≡ word (refusal_of c question) n
      unfolding word
      refused_word n k = k ∙ ap (λ (y : ℕ). y * 65536) number ∙ rw (nine, ne_eqb (cells_refusal c) 0 told.0)

      pub refused_list : {r : ℕ} (size : ℕ) (out l : List ℕ) → r ≡ refusal_no x * 65536
          → (r ≡ list_word size (refusal_of c question) out l) × (out ≡ list_out (refusal_of c question) out l)
      unfolding list_word
      refused_list size out l k =
          let o = kept_out (refusal_of c question) out l (λ z. told.0 (sym nine ∙ z)) in
          (rw o.0 (refused_word (length l / size) k), o.1)

  -- ---- cell bytes that are a board's

  module _ {b : Board} (is : m ≡ Ok b) where
    none : cells_refusal c ≡ 0
    none = made-refusal (cells_refusal c) c e is

    pub same-cells : cells b ≡ c
    same-cells = made_cells (cells_refusal c) c e is (cells_in c)

    module _ (question : Board → ℕ) where
      pub asked : question b ≡ refusal_of c question
      unfolding refusal_of first
      asked = ap question (made-board (cells_refusal c) c e is) ∙ rw (eq-eqb (cells_refusal c) 0 none)

      pub asked_word : {A : Type 0} (low : A → ℕ) (f : List ℕ → A) {a : Result A Refusal} {r : ℕ} → question b ≤ 22
          → a ≡ answer (question b) (f (cells b)) → r ≡ word_of low a → r ≡ word (refusal_of c question) (low (f c))
      asked_word low f h ea k =
          word_given low (question b) (f (cells b)) h ea k ∙ ap₂ (λ (n : ℕ) (x : List ℕ). word n (low (f x))) asked same-cells

      pub asked_list : (size : ℕ) (out : List ℕ) (f : List ℕ → List ℕ) {a : Result ℕ Refusal} {r : ℕ} {out' : List ℕ} → question b ≤ 22
          → (a ≡ counted size (question b) out (f (cells b))) × (out' ≡ list_out (question b) out (f (cells b)))
          → r ≡ word_of (λ (n : ℕ). n) a
          → (r ≡ list_word size (refusal_of c question) out (f c)) × (out' ≡ list_out (refusal_of c question) out (f c))
      asked_list size out f h w k =
          let o = list_given size (question b) out (f (cells b)) h w k in (
            o.0 ∙ ap₂ (λ (n : ℕ) (x : List ℕ). list_word size n out (f x)) asked same-cells,
            o.1 ∙ ap₂ (λ (n : ℕ) (x : List ℕ). list_out n out (f x)) asked same-cells,
          )
