-- Stored games go from form to form without loss (document 02, No. 4). Stated of what the contracts of `old_to_tagged`, `to_tagged`,
-- `from_tagged` and `tagged_view` cite: `record_of` is what the first two write, `stored_moves` what the third writes, `stored_view` what the
-- fourth gives, each where its refusal is 0. Assumes nothing.
use mathlib.Core.Path.{◌≡◌, refl, ap, ap₂, sym, ◌∙◌}
use mathlib.Core.Bool.{true, false, ◌&&◌}
use mathlib.Core.Logic.{◌⊎◌, inl, inr}
use mathlib.Core.List.{List, [], ◌∷◌, ◌++◌, append-nil}
use Prim.Native.Nat.{ℕ, ◌+◌, ◌≤◌, ◌<◌}
use native.Mathlib.Omega.{arith}
use lib.Dec.{T, eqb, leb, ltb, eqb→eq, leb→le}
use lib.ListN.{length, get_or}
use lib.Seq.{get_or-drop}
use borrow.Author.Tests.{eq-eqb, lt-ltb}
use Rattle.rules.specs.Refusals.{malformed, turned_view, unless, first, view_refusal}
use Rattle.rules.proofs.Logic.{true-T, and_left, and_right, decide}
use Rattle.rules.proofs.Refusals.{first-none, none_first, passed, pass}
use Rattle.point.proofs.Refused.{view_in}
use Rattle.cells.specs.Cells.{moves_refusal}
use Rattle.stored.specs.Fields.{field, field_length, field_value, behind_field, has_field}
use Rattle.stored.specs.Records.{view_tag, moves_tag, record_of, stored_view, stored_moves, begins_with_view, is_moves_alone, is_record}
use Rattle.stored.specs.Records.{record_refusal, back_refusal, tagged_refusal}
use Rattle.stored.proofs.Fields.{value-length, field-whole}
use Rattle.stored.proofs.Records.{record-length, view-read, moves_read, refused-as-moves}

-- bytes, as every lent slice has them
abbrev pub AreBytes : List ℕ → Type 0
AreBytes s = (i : ℕ) → get_or s i 0 < 256

-- ---- what is written is read

-- Reading what the general writer writes gives back view and moves, and refuses nothing.
pub written_read : (view : ℕ) (moves : List ℕ) → tagged_refusal view moves ≡ 0
    → (record_refusal (record_of view moves) ≡ 0) × (stored_view (record_of view moves) ≡ view) × (stored_moves (record_of view moves) ≡ moves)
unfolding tagged_refusal
written_read view moves e =
    let (m, v) = first-none (moves_refusal moves) (view_refusal view) e in
    (refused-as-moves view moves (view_in view v) ∙ m, view-read view moves, moves_read view moves)

-- "Old to new to old gives the same bytes": moves that are not refused are written, the record is taken back, and gives the moves.
pub old-new-old : (moves : List ℕ) → moves_refusal moves ≡ 0
    → (back_refusal (record_of 0 moves) ≡ 0) × (stored_moves (record_of 0 moves) ≡ moves)
unfolding back_refusal
old-new-old moves e =
    let s : List ℕ = record_of 0 moves in (
      none_first (record_refusal s) (unless (eqb (stored_view s) 0) turned_view) (refused-as-moves 0 moves (omega arith) ∙ e)
          (pass (eqb (stored_view s) 0) turned_view (true-T (eq-eqb (stored_view s) 0 (view-read 0 moves)))),
      moves_read 0 moves,
    )

-- ---- what is read is what is written

-- lists of no byte and of one
no_byte : (l : List ℕ) → length l ≡ 0 → l ≡ []
no_byte [] e = refl
no_byte (a ∷ l) e = absurd (omega arith)

one_byte : (l : List ℕ) → length l ≡ 1 → l ≡ get_or l 0 0 ∷ []
one_byte [] e = absurd (omega arith)
one_byte (a ∷ []) e = refl
one_byte (a ∷ b ∷ l) e = absurd (omega arith)

module _ (s : List ℕ) (bytes : AreBytes s) (t : T (is_record s)) where
  begins : T (begins_with_view s)
  unfolding is_record
  begins = and_left (begins_with_view s) (is_moves_alone (behind_field s)) t

  alone : T (is_moves_alone (behind_field s))
  unfolding is_record
  alone = and_right (begins_with_view s) (is_moves_alone (behind_field s)) t

  first-there : T (has_field view_tag s)
  unfolding begins_with_view
  first-there = and_left (has_field view_tag s) (eqb (field_length s) 1 && leb (stored_view s) 7) begins

  view-fits : T (eqb (field_length s) 1 && leb (stored_view s) 7)
  unfolding begins_with_view
  view-fits = and_right (has_field view_tag s) (eqb (field_length s) 1 && leb (stored_view s) 7) begins

  view-small : stored_view s ≤ 7
  view-small = leb→le (stored_view s) 7 (and_right (eqb (field_length s) 1) (leb (stored_view s) 7) view-fits)

  view-alone : field_value s ≡ stored_view s ∷ []
  unfolding stored_view
  view-alone =
      one_byte (field_value s)
      (value-length view_tag s first-there
      ∙ eqb→eq (field_length s) 1 (and_left (eqb (field_length s) 1) (leb (stored_view s) 7) view-fits))

  then-there : T (has_field moves_tag (behind_field s))
  unfolding is_moves_alone
  then-there = and_left (has_field moves_tag (behind_field s)) (eqb (length (behind_field (behind_field s))) 0) alone

  nothing-after : behind_field (behind_field s) ≡ []
  unfolding is_moves_alone
  nothing-after =
      no_byte (behind_field (behind_field s))
      (eqb→eq (length (behind_field (behind_field s))) 0
      (and_right (has_field moves_tag (behind_field s)) (eqb (length (behind_field (behind_field s))) 0) alone))

  behind-bytes : AreBytes (behind_field s)
  unfolding behind_field
  behind-bytes i = rw (get_or-drop, get_or-drop) (bytes (3 + (field_length s + i)))

  moves-whole : field moves_tag (stored_moves s) ≡ behind_field s
  unfolding stored_moves
  moves-whole =
      sym (append-nil (field moves_tag (field_value (behind_field s))))
      ∙ ap (λ (rest : List ℕ). field moves_tag (field_value (behind_field s)) ++ rest) (sym nothing-after)
      ∙ field-whole moves_tag (behind_field s) (behind-bytes 2) then-there

  whole-record : record_of (stored_view s) (stored_moves s) ≡ s
  unfolding record_of
  whole-record =
      ap₂ (λ (value rest : List ℕ). field view_tag value ++ rest) (sym view-alone) moves-whole
      ∙ field-whole view_tag s (bytes 2) first-there

  not-long : length s ≤ 65542
  unfolding field_length stored_moves
  not-long =
      let all = ap length (sym whole-record) ∙ record-length (stored_view s) (stored_moves s) in
      let moves = value-length moves_tag (behind_field s) then-there in
      omega (arith, behind-bytes 1, behind-bytes 2)

-- A record that is read is the one that its view and moves are written as; and they can be written.
pub read-written : (s : List ℕ) → AreBytes s → record_refusal s ≡ 0
    → (tagged_refusal (stored_view s) (stored_moves s) ≡ 0) × (record_of (stored_view s) (stored_moves s) ≡ s)
unfolding record_refusal tagged_refusal view_refusal
read-written s bytes e =
    let (r, m) = first-none (unless (is_record s) malformed) (moves_refusal (stored_moves s)) e in
    let t = passed (is_record s) 14 r in
    let small = view-small s bytes t in (
      none_first (moves_refusal (stored_moves s)) (view_refusal (stored_view s)) m
          (pass (ltb (stored_view s) 8) 12 (true-T (lt-ltb (stored_view s) 8 (omega arith)))),
      whole-record s bytes t,
    )

-- So no two records say the same game.
pub one-record : (s t : List ℕ) → AreBytes s → AreBytes t → record_refusal s ≡ 0 → record_refusal t ≡ 0 → stored_view s ≡ stored_view t
    → stored_moves s ≡ stored_moves t → s ≡ t
one-record s t b b' e e' view moves = sym (read-written s b e).1 ∙ ap₂ record_of view moves ∙ (read-written t b' e').1

-- "and so does new to old to new where view is 0": a record that is taken back gives moves that are not refused, whose record it is.
pub new-old-new : (s : List ℕ) → AreBytes s → back_refusal s ≡ 0
    → (moves_refusal (stored_moves s) ≡ 0) × (record_of 0 (stored_moves s) ≡ s)
unfolding back_refusal record_refusal
new-old-new s bytes e =
    let (r, z) = first-none (record_refusal s) (unless (eqb (stored_view s) 0) turned_view) e in
    let zero-view = eqb→eq (stored_view s) 0 (passed (eqb (stored_view s) 0) 15 z) in (
      (first-none (unless (is_record s) malformed) (moves_refusal (stored_moves s)) r).1,
      ap (λ (v : ℕ). record_of v (stored_moves s)) (sym zero-view) ∙ (read-written s bytes r).1,
    )

-- More than 7 and 65,535 bytes are no record: no two bytes say so many moves.
pub too_long : (s : List ℕ) → AreBytes s → 65542 < length s → record_refusal s ≡ malformed
unfolding record_refusal first unless
too_long s bytes h = go (decide (is_record s))
  where
    go : (is_record s ≡ true) ⊎ (is_record s ≡ false) → record_refusal s ≡ malformed
    go (inl t) = let l = not-long s bytes (true-T t) in absurd (omega arith)
    go (inr f) = rw f
