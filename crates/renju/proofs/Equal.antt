-- The two referees are equal, by their contracts: asked the same, what the fast one may answer and what the second one may is the same
-- answer, and the lent bytes after are the same bytes. First of any cell bytes and numbers, through the host interface, refusals included;
-- then of every sound board, which the fast one takes by value and the second one as its cells. Assumes nothing.
use mathlib.Core.Path.{◌≡◌, refl, ap, ap₂, sym, ◌∙◌}
use mathlib.Core.Bool.{true, false}
use mathlib.Core.List.{List}
use mathlib.Core.Logic.{◌⊎◌, inl, inr}
use Prim.Native.Nat.{ℕ}
use lib.Dec.{eqb}
use lib.ListN.{get_or}
use borrow.Author.Tests.{eqb-true, eqb-false}
use contract.Lifetimes.{Lfts}
use denote.Ref.{Bor}
use denote.MutBor.{MutBor}
use Rattle.rules.specs.Numbers.{player_of, kind_of}
use Rattle.rules.specs.Refusals.{occupied, unless, first, code_refusal, colour_refusal, kind_refusal}
use Rattle.rules.specs.Answers.{answer}
use Rattle.rules.specs.Grid.{is_empty, rows_of, rows_on_point, four_eyes}
use Rattle.rules.specs.Forbidden.{plain_of, strict_of, forbidden_list}
use Rattle.rules.proofs.Logic.{decide}
use Rattle.lent.specs.Lists.{list_out, counted}
use Rattle.cells.specs.Cells.{cells_refusal, cells_refusal_at, cells_refusal_for, cells_stones_refusal}
use Rattle.cells.proofs.Given.{cells_in, cells-pass}
use Rattle.grid.proofs.Lines.{cells-cells_of}
use Rattle.board.specs.Boards.{cells, board_of, board_refusal, refusal_at, refusal_for, rows_on_refusal}
use Rattle.board.specs.declared.board.Board.{Board}
use Rattle.board.proofs.Given.{board-sound, board-cells}
use Rattle.lists.specs.Lists.{stones_refusal, rows_refusal}
use Rattle.referee.specs.Answers.{forbidden_refusal}
use Rattle.second.specs.Lists.{cells_rows_refusal, cells_rows_on_refusal, cells_forbidden_refusal}
use Rattle.renju.specs.Answers.{word, list_word, refusal_of}
use Rattle.renju.proofs.Asked.{first-given}
use Rattle.renju.proofs.listed.renju_rows.Reads as renju-rows
use Rattle.renju.proofs.listed.renju_rows_on.Reads as renju-rows-on
use Rattle.renju.proofs.listed.renju_four_eyes_on.Reads as renju-four-eyes-on
use Rattle.renju.proofs.listed.renju_forbidden_points.Reads as renju-forbidden-points
use Rattle.renju.proofs.verdicts.renju_forbidden.Reads as renju-forbidden
use Rattle.renju.proofs.verdicts.renju_forbidden_strict.Reads as renju-forbidden-strict
use Rattle.renju.proofs.second_referee.renju_second_rows.Reads as renju-second-rows
use Rattle.renju.proofs.second_referee.renju_second_rows_on.Reads as renju-second-rows-on
use Rattle.renju.proofs.second_referee.renju_second_four_eyes_on.Reads as renju-second-four-eyes-on
use Rattle.renju.proofs.second_referee.renju_second_forbidden_points.Reads as renju-second-forbidden-points
use Rattle.renju.proofs.second_referee.renju_second_forbidden.Reads as renju-second-forbidden
use Rattle.renju.proofs.second_referee.renju_second_forbidden_strict.Reads as renju-second-forbidden-strict
use Rattle.lists.proofs.rows.Reads as lists-rows
use Rattle.lists.proofs.rows_on.Reads as lists-rows-on
use Rattle.lists.proofs.four_eyes_on.Reads as lists-four-eyes-on
use Rattle.referee.proofs.forbidden.Reads as referee-forbidden
use Rattle.referee.proofs.forbidden_strict.Reads as referee-forbidden-strict
use Rattle.referee.proofs.forbidden_points.Reads as referee-forbidden-points
use Rattle.second.proofs.rows.Reads as second-rows
use Rattle.second.proofs.rows_on.Reads as second-rows-on
use Rattle.second.proofs.four_eyes_on.Reads as second-four-eyes-on
use Rattle.second.proofs.forbidden.Reads as second-forbidden
use Rattle.second.proofs.forbidden_strict.Reads as second-forbidden-strict
use Rattle.second.proofs.forbidden_points.Reads as second-forbidden-points

-- ---- what is claimed

-- `f.Post κs asked r after` is what the contract of f ensures: asked this, it may answer r and leave its parameters as `after` says.
-- `asked` and `after` have the parameters in their order.

-- what the one may answer and what the other may are equal
abbrev pub SameAnswer : {R S S' : Type 0} → (R → S → Type 0) → (R → S' → Type 0) → Type 0
SameAnswer {R} {S} {S'} fast second = (r r' : R) (after : S) (after' : S') → fast r after → second r' after' → r ≡ r'

-- .. and so are the bytes of the buffer that each was lent
abbrev pub SameList : {R S S' : Type 0} → (R → S → Type 0) → (R → S' → Type 0) → (S → MutBor (List ℕ)) → (S' → MutBor (List ℕ)) → Type 0
SameList {R} {S} {S'} fast second lent lent' =
    (r r' : R) (after : S) (after' : S') → fast r after → second r' after' → (r ≡ r') × ((lent after).now ≡ (lent' after').now)

-- ---- refused alike: of a board that is refused as its cells are

module _ (b : Board) (c : List ℕ) (e : board_refusal b ≡ cells_refusal c) where
  at-alike : (p : ℕ) → refusal_at b p ≡ cells_refusal_at c p
  unfolding refusal_at cells_refusal_at
  at-alike p = ap (λ (n : ℕ). first n (code_refusal p)) e

  for-alike : (p colour : ℕ) → refusal_for b p colour ≡ cells_refusal_for c p colour
  unfolding refusal_for cells_refusal_for
  for-alike p colour = ap (λ (n : ℕ). first n (colour_refusal colour)) (at-alike p)

  rows-on-alike : (p colour kind : ℕ) → rows_on_refusal b p colour kind ≡ cells_rows_on_refusal c p colour kind
  unfolding rows_on_refusal cells_rows_on_refusal
  rows-on-alike p colour kind = ap (λ (n : ℕ). first n (kind_refusal kind)) (for-alike p colour)

  rows_alike : (colour kind : ℕ) → rows_refusal b colour kind ≡ cells_rows_refusal c colour kind
  unfolding rows_refusal stones_refusal cells_rows_refusal cells_stones_refusal
  rows_alike colour kind = ap (λ (n : ℕ). first (first n (colour_refusal colour)) (kind_refusal kind)) e

  forbidden-alike : cells b ≡ c → (p : ℕ) → forbidden_refusal b p ≡ cells_forbidden_refusal c p
  unfolding forbidden_refusal cells_forbidden_refusal
  forbidden-alike same p = ap₂ (λ (n : ℕ) (x : List ℕ). first n (unless (is_empty (get_or x p 0)) occupied)) (at-alike p) same

-- ---- .. and of cell bytes, whose board is asked: 9 is told before all else, by both, and the board refuses nothing more

module _ (c : List ℕ) where
  -- `told` is what the second referee refuses
  module _ (question : Board → ℕ) (told : ℕ) (nine : (cells_refusal c ≡ 0 → ⊥) → told ≡ cells_refusal c)
      (alike : (b : Board) → board_refusal b ≡ cells_refusal c → cells b ≡ c → question b ≡ told) where
    told-alike : refusal_of c question ≡ told
    unfolding refusal_of first
    told-alike = go (decide (eqb (cells_refusal c) 0))
      where
        go : (eqb (cells_refusal c) 0 ≡ true) ⊎ (eqb (cells_refusal c) 0 ≡ false) → refusal_of c question ≡ told
        go (inl t) =
            let none = eqb-true (cells_refusal c) 0 t in
            let ok = cells_in c none in
            rw t (alike (board_of c) (board-sound c ok ∙ sym none) (board-cells c ok))
        go (inr t) = rw t (sym (nine (eqb-false (cells_refusal c) 0 t)))

  rows_told : (colour kind : ℕ) → refusal_of c (λ b. rows_refusal b colour kind) ≡ cells_rows_refusal c colour kind
  unfolding cells_rows_refusal cells_stones_refusal
  rows_told colour kind =
      told-alike (λ b. rows_refusal b colour kind) (cells_rows_refusal c colour kind)
      (λ given. first-given (first-given refl given (colour_refusal colour)) given (kind_refusal kind))
      (λ b e same. rows_alike b c e colour kind)

  for-nine : (p colour : ℕ) → (cells_refusal c ≡ 0 → ⊥) → cells_refusal_for c p colour ≡ cells_refusal c
  unfolding cells_refusal_for cells_refusal_at
  for-nine p colour given = first-given (first-given refl given (code_refusal p)) given (colour_refusal colour)

  for-told : (p colour : ℕ) → refusal_of c (λ b. refusal_for b p colour) ≡ cells_refusal_for c p colour
  for-told p colour =
      told-alike (λ b. refusal_for b p colour) (cells_refusal_for c p colour) (for-nine p colour) (λ b e same. for-alike b c e p colour)

  rows-on-told : (p colour kind : ℕ) → refusal_of c (λ b. rows_on_refusal b p colour kind) ≡ cells_rows_on_refusal c p colour kind
  unfolding cells_rows_on_refusal
  rows-on-told p colour kind =
      told-alike (λ b. rows_on_refusal b p colour kind) (cells_rows_on_refusal c p colour kind)
      (λ given. first-given (for-nine p colour given) given (kind_refusal kind))
      (λ b e same. rows-on-alike b c e p colour kind)

  forbidden-told : (p : ℕ) → refusal_of c (λ b. forbidden_refusal b p) ≡ cells_forbidden_refusal c p
  unfolding cells_forbidden_refusal cells_refusal_at
  forbidden-told p =
      told-alike (λ b. forbidden_refusal b p) (cells_forbidden_refusal c p)
      (λ given. first-given (first-given refl given (code_refusal p)) given (unless (is_empty (get_or c p 0)) occupied))
      (λ b e same. forbidden-alike b c e same p)

-- ---- two that are told by one definition, the refusal and what is asked for being the same

module _ {A B : Type 0} (answer : ℕ → B → A) {told told' : ℕ} {v v' : B} (e : told ≡ told') (l : v ≡ v') where
  one_answer : {r r' : A} → r ≡ answer told v → r' ≡ answer told' v' → r ≡ r'
  one_answer f s = f ∙ ap₂ answer e l ∙ sym s

module _ {A : Type 0} (answer : ℕ → List ℕ → List ℕ → A) {told told' : ℕ} {a a' : List ℕ} (out : List ℕ) (e : told ≡ told')
    (l : a ≡ a') where
  one_list : {r r' : A} {o o' : List ℕ} → (r ≡ answer told out a) × (o ≡ list_out told out a)
      → (r' ≡ answer told' out a') × (o' ≡ list_out told' out a') → (r ≡ r') × (o ≡ o')
  one_list f s = (
    one_answer (λ (n : ℕ) (x : List ℕ). answer n out x) e l f.0 s.0,
    one_answer (λ (n : ℕ) (x : List ℕ). list_out n out x) e l f.1 s.1,
  )

-- ---- the host interface: the same cell bytes, numbers and lent buffer are handed to both

module _ (κs : Lfts 2) (c : Bor (List ℕ)) (out : MutBor (List ℕ)) where
  pub rows-equal : (colour kind : ℕ) → SameList
      (renju-rows.Post κs (c, (colour, (kind, (out, tt)))))
      (renju-second-rows.Post κs (c, (colour, (kind, (out, tt)))))
      (λ s. s.1.1.1.0) (λ s. s.1.1.1.0)
  rows-equal colour kind r r' s s' = one_list (list_word 4) out.now (rows_told c.now colour kind) refl

  pub rows-on-equal : (code colour kind : ℕ) → SameList
      (renju-rows-on.Post κs (c, (code, (colour, (kind, (out, tt))))))
      (renju-second-rows-on.Post κs (c, (code, (colour, (kind, (out, tt))))))
      (λ s. s.1.1.1.1.0) (λ s. s.1.1.1.1.0)
  rows-on-equal code colour kind r r' s s' = one_list (list_word 4) out.now (rows-on-told c.now code colour kind) refl

  pub four-eyes-on-equal : (code colour : ℕ) → SameList
      (renju-four-eyes-on.Post κs (c, (code, (colour, (out, tt)))))
      (renju-second-four-eyes-on.Post κs (c, (code, (colour, (out, tt)))))
      (λ s. s.1.1.1.0) (λ s. s.1.1.1.0)
  four-eyes-on-equal code colour r r' s s' = one_list (list_word 1) out.now (for-told c.now code colour) refl

  pub forbidden-points-equal : SameList
      (renju-forbidden-points.Post κs (c, (out, tt)))
      (renju-second-forbidden-points.Post κs (c, (out, tt)))
      (λ s. s.1.0) (λ s. s.1.0)
  forbidden-points-equal r r' s s' = one_list (list_word 2) out.now refl refl

module _ (κs : Lfts 1) (c : Bor (List ℕ)) (code : ℕ) where
  pub forbidden-equal : SameAnswer (renju-forbidden.Post κs (c, (code, tt))) (renju-second-forbidden.Post κs (c, (code, tt)))
  forbidden-equal r r' s s' = one_answer word (forbidden-told c.now code) refl

  pub forbidden-strict-equal :
      SameAnswer (renju-forbidden-strict.Post κs (c, (code, tt))) (renju-second-forbidden-strict.Post κs (c, (code, tt)))
  forbidden-strict-equal r r' s s' = one_answer word refl refl

-- ---- a sound board b, asked of the crates `lists` and `referee`, and its cells c, asked of the second referee

module _ (b : Board) (sound : board_refusal b ≡ 0) (c : Bor (List ℕ)) (same : c.now ≡ cells b) where
  none-refused : board_refusal b ≡ cells_refusal c.now
  none-refused = sound ∙ sym (ap cells_refusal same ∙ cells-pass (cells b) (cells-cells_of b.lines))

  module _ (κs : Lfts 1) (κs' : Lfts 2) (out : MutBor (List ℕ)) where
    pub board-rows-equal : (colour kind : ℕ) → SameList
        (lists-rows.Post κs (b, (colour, (kind, (out, tt)))))
        (second-rows.Post κs' (c, (colour, (kind, (out, tt)))))
        (λ s. s.1.1.1.0) (λ s. s.1.1.1.0)
    board-rows-equal colour kind r r' s s' =
        one_list (counted 4) out.now (rows_alike b c.now none-refused colour kind)
        (ap (rows_of (player_of colour) (kind_of kind)) (sym same))

    pub board-rows-on-equal : (code colour kind : ℕ) → SameList
        (lists-rows-on.Post κs (b, (code, (colour, (kind, (out, tt))))))
        (second-rows-on.Post κs' (c, (code, (colour, (kind, (out, tt))))))
        (λ s. s.1.1.1.1.0) (λ s. s.1.1.1.1.0)
    board-rows-on-equal code colour kind r r' s s' =
        one_list (counted 4) out.now (rows-on-alike b c.now none-refused code colour kind)
        (ap (λ (x : List ℕ). rows_on_point (player_of colour) (kind_of kind) x code) (sym same))

    pub board-four-eyes-on-equal : (code colour : ℕ) → SameList
        (lists-four-eyes-on.Post κs (b, (code, (colour, (out, tt)))))
        (second-four-eyes-on.Post κs' (c, (code, (colour, (out, tt)))))
        (λ s. s.1.1.1.0) (λ s. s.1.1.1.0)
    board-four-eyes-on-equal code colour r r' s s' =
        one_list (counted 1) out.now (for-alike b c.now none-refused code colour)
        (ap (λ (x : List ℕ). four_eyes (player_of colour) x code) (sym same))

    pub board-forbidden-points-equal : SameList
        (referee-forbidden-points.Post κs (b, (out, tt)))
        (second-forbidden-points.Post κs' (c, (out, tt)))
        (λ s. s.1.0) (λ s. s.1.0)
    board-forbidden-points-equal r r' s s' =
        one_list (counted 2) out.now none-refused (ap forbidden_list (sym same))

  module _ (κs : Lfts 0) (κs' : Lfts 1) (code : ℕ) where
    pub board-forbidden-equal : SameAnswer
        (referee-forbidden.Post κs (b, (code, tt)))
        (second-forbidden.Post κs' (c, (code, tt)))
    board-forbidden-equal r r' s s' =
        one_answer answer (forbidden-alike b c.now none-refused (sym same) code) (ap (λ (x : List ℕ). plain_of x code) (sym same))

    pub board-forbidden-strict-equal : SameAnswer
        (referee-forbidden-strict.Post κs (b, (code, tt)))
        (second-forbidden-strict.Post κs' (c, (code, tt)))
    board-forbidden-strict-equal r r' s s' =
        one_answer answer (at-alike b c.now none-refused code) (ap (λ (x : List ℕ). strict_of x code) (sym same))
