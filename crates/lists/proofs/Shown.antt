-- What the masks of sound lines show is what the rules say of the cells: rows and eyes. Assumes nothing.
use mathlib.Core.Path.{◌≡◌, ap, ap₂, sym, subst, ◌∙◌}
use mathlib.Core.Bool.{Bool, true, false, ◌&&◌}
use mathlib.Core.List.{List, [], ◌∷◌}
use Prim.Native.Nat.{ℕ, suc, ◌+◌, ◌/◌, ◌%◌, ◌^◌, ◌≤◌, ◌<◌}
use native.Mathlib.Nat.{add_comm, mod-lt}
use native.Mathlib.Omega.{arith}
use lib.Dec.{T, leb, ltb, lit<}
use lib.Bits.{bit_and}
use borrow.Author.Tests.{le-leb, le-ltb}
use Rattle.rules.specs.Numbers.{is_black, opponent_of}
use Rattle.rules.specs.Tools.{gather, only}
use Rattle.rules.specs.Bit.{bit, mask_of}
use Rattle.rules.specs.Line.{Stones, row_at, empty_at, eye_span, eye_cells, among, is_eye, eye_of_some, stones_mask, eyes_mask, eyes_of}
use Rattle.rules.specs.Point.{line_no, line_size, point_at, key_at, key_dir, key_no, key_size}
use Rattle.rules.specs.Grid.{stone_at, row_on, rows_through, row_bytes, line_rows}
use Rattle.rules.specs.Grid.{four_eye, key_rows, rows_in, eyes_in}
use Rattle.rules.specs.declared.Player.{Player}
use Rattle.rules.specs.declared.RowKind.{RowKind}
use Rattle.rules.specs.declared.RowKind.TheVariants.{Four}
use Rattle.rules.proofs.Logic.{true-T, not-intro, not-false, and_left, any-elim, same-leb, and-flip}
use Rattle.rules.proofs.Lists.{gather_cong}
use Rattle.rules.proofs.Bits.{bit-none, bit-above, bit-mod, bit-shr, bit_mask, mask-ext, mask-cong, mask-and, bits_of, mask-none}
use Rattle.rules.proofs.Address.{key_back}
use Rattle.rules.proofs.Rows.{row_on-inside}
use Rattle.masks.proofs.Windows.{eyes-bit}
use Rattle.point.specs.Places.{has_place}
use Rattle.rules.proofs.Address.{size-le}
use Rattle.grid.specs.Lines.{shows, cells_of, Sound, starts_in}
use Rattle.grid.proofs.Lines.{line_at, shows-sound}
use Rattle.grid.proofs.RowStarts.{none-short, starts-along, starts-bits}
use Rattle.lent.proofs.Laws.{gather-nothing}
use Rattle.lists.specs.Lists.{cell_list, row_list}

-- ---- five bits of a mask

pub five-some : (m j : ℕ) → m / 2 ^ j % 32 ≡ stones_mask (bit m) j
unfolding stones_mask
five-some m j =
    mask-ext 5 (m / 2 ^ j % 32) _ (mod-lt (m / 2 ^ j) (lit< tt))
    (λ k h. bit-mod (m / 2 ^ j) 5 k h ∙ bit-shr m j k ∙ ap (bit m) (add_comm k j))

pub five-none : (m j : ℕ) → m < 2 ^ 16 → 16 ≤ j → 0 ≡ stones_mask (bit m) j
unfolding stones_mask
five-none m j h l = mask-ext 5 0 _ (lit< tt) (λ k g. bit-none k ∙ sym (bit-above m 16 (j + k) h (omega arith)))

past_end : (size : ℕ) (own other : Stones) (i : ℕ) → size ≤ i → empty_at size own other i ≡ false
unfolding empty_at
past_end size own other i h = rw (le-ltb i size h)

-- of the empty cells, those that a kind's eyes can be on
pub five-eyes : (size : ℕ) (own other : Stones) (kind : RowKind) (j : ℕ) → size ≤ 16
    → bit_and (stones_mask (bit (mask_of 16 (empty_at size own other))) j) (eye_cells kind) ≡ eyes_mask size own other kind j
unfolding stones_mask eye_cells eyes_mask is_eye among
five-eyes size own other kind j h =
    mask-and 5 (λ k. bit (mask_of 16 (empty_at size own other)) (j + k)) (λ i. ltb i (eye_span kind))
    ∙ mask-cong 5 _ _ (λ i l.
    ap₂ (λ (f : Stones) (b : Bool). f (j + i) && b)
    (bits_of 16 (empty_at size own other) (λ k g. past_end size own other k (omega arith))) (near i)
    ∙ and-flip (empty_at size own other (j + i)) (leb j (j + i) && ltb (j + i) (j + eye_span kind)))
  where
    near : (i : ℕ) → ltb i (eye_span kind) ≡ (leb j (j + i) && ltb (j + i) (j + eye_span kind))
    near i =
        same-leb (suc i) (eye_span kind) (suc (j + i)) (j + eye_span kind) (λ a. omega arith) (λ a. omega arith)
        ∙ sym (rw (le-leb j (j + i) (omega arith)))

-- ---- rows

module _ (r : Player) (k : RowKind) (l : List ℕ) (s : Sound l) where
  rows-shown : (key : ℕ) → key < 72 → (starts : ℕ → Bool)
      → row_list key (shows r l key) (shows (opponent_of r) l key) k starts ≡ line_rows r k (cells_of l) (key_dir key) (key_no key) starts
  unfolding row_list line_rows row_bytes key_size
  rows-shown key hk starts =
      ap₂ (λ (f g : Stones). row_list key f g k starts) (shows-sound r l key s hk) (shows-sound (opponent_of r) l key s hk)
      ∙ ap (λ (x : ℕ). gather (key_size key) (λ j. only (starts j) (x ∷ j ∷ row j))) (sym (key_back key hk))
    where
      own : Player → Stones
      own who = stone_at who (cells_of l) (key_dir key) (key_no key)

      row : ℕ → List ℕ
      row j = stones_mask (own r) j ∷ eyes_mask (key_size key) (own r) (own (opponent_of r)) k j ∷ []

  key-starts : (key : ℕ) → key < 72
      → bit (mask_of 16 (row_at (is_black r) (key_size key) (shows r l key) (shows (opponent_of r) l key) k))
      ≡ row_on r k (cells_of l) (key_dir key) (key_no key)
  unfolding row_on key_size
  key-starts key hk =
      ap₂ (λ (f g : Stones). bit (mask_of 16 (row_at (is_black r) (key_size key) f g k))) (shows-sound r l key s hk)
      (shows-sound (opponent_of r) l key s hk)
      ∙ bits_of 16 (row_on r k (cells_of l) (key_dir key) (key_no key))
      (λ j h. not-false (not-intro (row_on r k (cells_of l) (key_dir key) (key_no key) j) (λ t.
      let a = row_on-inside r k (cells_of l) (key_dir key) (key_no key) j t in
      let b = size-le (key_dir key) (key_no key) in
      absurd (omega arith))))

  -- those of the line of a key
  pub key-rows : (key : ℕ) → key < 72
      → row_list key (shows r l key) (shows (opponent_of r) l key) k
      (bit (mask_of 16 (row_at (is_black r) (key_size key) (shows r l key) (shows (opponent_of r) l key) k)))
      ≡ key_rows r k (cells_of l) key
  key-rows key hk =
      ap (row_list key (shows r l key) (shows (opponent_of r) l key) k) (key-starts key hk)
      ∙ rows-shown key hk (row_on r k (cells_of l) (key_dir key) (key_no key))

  -- those of the line through a point
  pub point-rows : (p d : ℕ) → d < 4 → has_place d p ≡ true
      → row_list (key_at d p) (shows r l (key_at d p)) (shows (opponent_of r) l (key_at d p)) k (bit (starts_in l p r k d))
      ≡ rows_in r k (cells_of l) p d
  point-rows p d hd e =
      let th = line_at d p hd (true-T e) in
      ap (row_list (key_at d p) (shows r l (key_at d p)) (shows (opponent_of r) l (key_at d p)) k) (starts-bits r k l p d s hd th.point)
      ∙ rows-shown (key_at d p) th.key (rows_through r k (cells_of l) p d)
      ∙ ap₂ (λ (x y : ℕ). line_rows r k (cells_of l) x y (rows_through r k (cells_of l) p d)) th.dir th.no

pub no_rows : (r : Player) (k : RowKind) (cells : List ℕ) (p d : ℕ) → d < 4 → p < 225 → has_place d p ≡ false → [] ≡ rows_in r k cells p d
unfolding line_rows
no_rows r k cells p d hd hp e =
    sym (gather-nothing (line_size d (line_no d p)) _
    (λ j. ap (λ (b : Bool). only b (row_bytes r k cells d (line_no d p) j)) (none-short r k cells p d hd hp e j)))

-- ---- eyes of fours

pub point-eyes : (r : Player) (l : List ℕ) (p d : ℕ) → Sound l → d < 4 → has_place d p ≡ true
    → mask_of 16 (eyes_of (key_size (key_at d p)) (shows r l (key_at d p)) (shows (opponent_of r) l (key_at d p)) (bit (starts_in l p r Four d))
    (bit (eye_cells Four))) ≡ mask_of 16 (four_eye r (cells_of l) p d)
unfolding four_eye key_size
point-eyes r l p d s hd e =
    let th = line_at d p hd (true-T e) in
    let key = key_at d p in
    let rows = rows_through r Four (cells_of l) p d in
    ap (λ (m : ℕ). mask_of 16 (eyes_of (key_size key) (shows r l key) (shows (opponent_of r) l key) (bit m) (bit (eye_cells Four))))
    (starts-along r Four l p d s hd th.point)
    ∙ mask-cong 16 _ _ (λ i h. eyes-bit (key_size key) (shows r l key) (shows (opponent_of r) l key) Four rows i h)
    ∙ ap₂ (λ (f g : Stones). mask_of 16 (eye_of_some (key_size key) f g Four rows)) (shows-sound r l key s th.key)
    (shows-sound (opponent_of r) l key s th.key)
    ∙ ap₂ (λ (x y : ℕ). mask_of 16
    (eye_of_some (line_size x y) (stone_at r (cells_of l) x y) (stone_at (opponent_of r) (cells_of l) x y) Four rows)) th.dir th.no

pub no-eyes : (r : Player) (cells : List ℕ) (p d : ℕ) → d < 4 → p < 225 → has_place d p ≡ false → 0 ≡ mask_of 16 (four_eye r cells p d)
unfolding four_eye eye_of_some
no-eyes r cells p d hd hp e =
    sym (mask-none 16 (four_eye r cells p d) (λ i h. not-false (not-intro (four_eye r cells p d i) (λ t.
    let (j, a, u) = any-elim 16 (λ j. rows_through r Four cells p d j
    && is_eye (line_size d (line_no d p)) (stone_at r cells d (line_no d p)) (stone_at (opponent_of r) cells d (line_no d p)) Four j i) t in
    subst T (none-short r Four cells p d hd hp e j) (and_left (rows_through r Four cells p d j) _ u)))))

pub eye-list : (r : Player) (cells : List ℕ) (p d : ℕ)
    → cell_list d (line_no d p) (bit (mask_of 16 (four_eye r cells p d))) ≡ eyes_in r cells p d
unfolding cell_list
eye-list r cells p d =
    gather_cong (line_size d (line_no d p)) _ _ (λ i h.
    let b = size-le d (line_no d p) in
    ap (λ (on : Bool). only on (point_at d (line_no d p) i ∷ [])) (bit_mask 16 (four_eye r cells p d) i (omega arith)))
