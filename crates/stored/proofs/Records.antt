-- Records: what is known where nothing is refused, and what is read off a record that was written. Assumes nothing.
use mathlib.Core.Path.{◌≡◌, refl, ap, sym, subst, ◌∙◌}
use mathlib.Core.Bool.{true, false, ◌&&◌}
use mathlib.Core.Logic.{◌⊎◌, inl, inr}
use mathlib.Core.List.{List, [], ◌∷◌, ◌++◌, append-nil}
use Prim.Native.Nat.{ℕ, ◌+◌, ◌/◌, ◌%◌, ◌≤◌, ◌<◌}
use native.Mathlib.Omega.{arith}
use lib.Dec.{T, eqb, leb, le→leb}
use lib.ListN.{length, get_or}
use borrow.Author.Tests.{eq-eqb, eqb-true}
use Rattle.rules.specs.Refusals.{malformed, turned_view, unless, first, view_refusal}
use Rattle.rules.proofs.Logic.{true-T, and_intro, decide}
use Rattle.rules.proofs.Refusals.{first-none, pass}
use Rattle.cells.specs.Cells.{moves_refusal}
use Rattle.cells.proofs.Given.{moves-in}
use Rattle.stored.specs.Fields.{field, field_length, field_value, behind_field, has_field}
use Rattle.stored.specs.Records.{view_tag, moves_tag, record_of, stored_view, stored_moves, begins_with_view, is_moves_alone, is_record}
use Rattle.stored.specs.Records.{record_refusal, back_refusal, tagged_refusal}
use Rattle.stored.proofs.Fields.{length_back, value-back, rest_back, field-there}

-- ---- not refused

-- moves that are written, and moves that are taken back, are at most 225
pub tagged-few : (view : ℕ) (moves : List ℕ) → tagged_refusal view moves ≡ 0 → length moves ≤ 225
unfolding tagged_refusal
tagged-few view moves e = (moves-in moves (first-none (moves_refusal moves) (view_refusal view) e).0).0

pub back-few : (s : List ℕ) → back_refusal s ≡ 0 → length (stored_moves s) ≤ 225
unfolding back_refusal record_refusal
back-few s e =
    let r = (first-none (record_refusal s) (unless (eqb (stored_view s) 0) turned_view) e).0 in
    (moves-in (stored_moves s) (first-none (unless (is_record s) malformed) (moves_refusal (stored_moves s)) r).1).0

-- in view 0 only moves are refused
pub tagged-old : (moves : List ℕ) → tagged_refusal 0 moves ≡ moves_refusal moves
unfolding tagged_refusal view_refusal unless first
tagged-old moves = go (decide (eqb (moves_refusal moves) 0))
  where
    go : (eqb (moves_refusal moves) 0 ≡ true) ⊎ (eqb (moves_refusal moves) 0 ≡ false) → first (moves_refusal moves) 0 ≡ moves_refusal moves
    go (inl t) = rw t (sym (eqb-true (moves_refusal moves) 0 t))
    go (inr t) = rw t

-- ---- a record that was written

module _ (view : ℕ) (moves : List ℕ) where
  -- its bytes, one by one
  pub record-bytes : record_of view moves ≡ 1 ∷ 0 ∷ 1 ∷ view ∷ 2 ∷ (length moves / 256) ∷ (length moves % 256) ∷ moves
  unfolding record_of field
  record-bytes = refl

  -- seven more than it has moves
  pub record-length : length (record_of view moves) ≡ 7 + length moves
  unfolding record_of field
  record-length = omega arith

  behind-view : behind_field (record_of view moves) ≡ field moves_tag moves ++ []
  unfolding record_of
  behind-view = rest_back view_tag (view ∷ []) (field moves_tag moves) ∙ sym (append-nil (field moves_tag moves))

  pub view-read : stored_view (record_of view moves) ≡ view
  unfolding stored_view record_of
  view-read = ap (λ (value : List ℕ). get_or value 0 0) (value-back view_tag (view ∷ []) (field moves_tag moves))

  pub moves_read : stored_moves (record_of view moves) ≡ moves
  unfolding stored_moves
  moves_read = ap field_value behind-view ∙ value-back moves_tag moves []

  view-length : field_length (record_of view moves) ≡ 1
  unfolding record_of
  view-length = length_back view_tag (view ∷ []) (field moves_tag moves)

  view-there : T (has_field view_tag (record_of view moves))
  unfolding record_of
  view-there = field-there view_tag (view ∷ []) (field moves_tag moves)

  moves-alone : T (is_moves_alone (field moves_tag moves ++ []))
  unfolding is_moves_alone
  moves-alone =
      let s : List ℕ = field moves_tag moves ++ [] in
      and_intro (has_field moves_tag s) (eqb (length (behind_field s)) 0) (field-there moves_tag moves [])
      (true-T (eq-eqb (length (behind_field s)) 0 (ap length (rest_back moves_tag moves []))))

  module _ (h : view < 8) where
    view-begins : T (begins_with_view (record_of view moves))
    unfolding begins_with_view
    view-begins =
        let s : List ℕ = record_of view moves in
        let v = view-read in
        and_intro (has_field view_tag s) (eqb (field_length s) 1 && leb (stored_view s) 7) view-there
        (and_intro (eqb (field_length s) 1) (leb (stored_view s) 7) (true-T (eq-eqb (field_length s) 1 view-length))
        (le→leb (stored_view s) 7 (omega arith)))

    is-record : T (is_record (record_of view moves))
    unfolding is_record
    is-record =
        and_intro (begins_with_view (record_of view moves)) (is_moves_alone (behind_field (record_of view moves))) view-begins
        (subst (λ (s : List ℕ). T (is_moves_alone s)) (sym behind-view) moves-alone)

    -- what is refused of it is what is refused of its moves: over 225 of them are 14, and not 15
    pub refused-as-moves : record_refusal (record_of view moves) ≡ moves_refusal moves
    unfolding record_refusal first
    refused-as-moves = rw (pass (is_record (record_of view moves)) malformed is-record) (ap moves_refusal moves_read)
