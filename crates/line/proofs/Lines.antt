-- Lines as values: their lists and masks. Assumes nothing.
use mathlib.Core.Path.{◌≡◌, refl, ap, ◌∙◌}
use mathlib.Core.Bool.{Bool, true, false, not, ◌&&◌, ◌||◌, cond}
use mathlib.Core.List.{[], ◌∷◌}
use Prim.Native.Nat.{ℕ, ◌+◌, ◌*◌, ◌^◌, ◌≤◌, ◌<◌}
use native.Mathlib.Nat.{mul-one}
use native.Mathlib.Omega.{arith}
use lib.Dec.{T, eqb, leb, ltb, leb→le, le→leb}
use lib.ListN.{length}
use borrow.Author.Tests.{lt-ltb, leb-true, eqb-true}
use Rattle.rules.specs.Numbers.{kind_of}
use Rattle.rules.specs.Refusals.{unless}
use Rattle.rules.specs.Tools.{all_below, gather, only}
use Rattle.rules.specs.Bit.{bit, mask_of, count_of}
use Rattle.rules.specs.Line.{Stones, inside, no_stone, sound_at, sound_line, sound_segment, segment_mask}
use Rattle.rules.proofs.Logic.{and_right, or_right, all-elim, all-intro}
use Rattle.rules.proofs.Refusals.{first-none, none_first, passed, pass}
use Rattle.rules.proofs.Lists.{gather_cong, gather-count}
use Rattle.rules.proofs.Bits.{bit-none, bit_mask, mask-self, count-cong, count-mono}
use Rattle.masks.specs.Masks.{placed}
use Rattle.rules.proofs.Windows.{row_inside}
use Rattle.rules.proofs.Around.{segment, sound-around}
use Rattle.lent.proofs.Laws.{gather-length, only-length}
use Rattle.segment.specs.Segments.{mine, segment_refusal}
use Rattle.line.specs.Lists.{bit_item, bit_list, window_item, window_list}
use Rattle.line.specs.declared.line.Line.{Line}
use Rattle.line.specs.Lines.{blacks, whites, own, other, line_rows_at, empty_line, line_with, segment_of, size_refusal, line_refusal}

-- a colour's stones are the mask of their cells
pub own_mask : (colour a b : ℕ) → a < 2 ^ 16 → b < 2 ^ 16 → mine colour a b ≡ mask_of 16 (bit (mine colour a b))
own_mask colour a b h k = go (eqb colour 1)
  where
    go : (t : Bool) → cond t a b ≡ mask_of 16 (bit (cond t a b))
    go true = mask-self 16 a h
    go false = mask-self 16 b k

-- ---- the lists: at most one item for each number
pub bits-short : (on : ℕ → Bool) (j : ℕ) → length (gather j (bit_item on)) ≤ j
bits-short on j = let h = gather-length 1 j (bit_item on) (λ i l. only-length (on i) (i ∷ [])) in omega arith

pub windows-short : (blacks whites : Stones) (starts : ℕ → Bool) (j : ℕ) → length (gather j (window_item blacks whites starts)) ≤ j * 3
windows-short blacks whites starts j =
    gather-length 3 j (window_item blacks whites starts)
    (λ i l. only-length (starts i) (i ∷ segment_mask blacks i ∷ segment_mask whites i ∷ []))

-- the count that is given is that of the items in the buffer
pub bits-count : (on : ℕ → Bool) → length (bit_list on) ≡ count_of 16 on
unfolding bit_list
bits-count on = gather-count 1 16 on (λ j. j ∷ []) (λ j. refl) ∙ mul-one (count_of 16 on)

pub windows-count : (blacks whites : Stones) (starts : ℕ → Bool) → length (window_list blacks whites starts) ≡ count_of 16 starts * 3
unfolding window_list
windows-count blacks whites starts =
    gather-count 3 16 starts (λ j. j ∷ segment_mask blacks j ∷ segment_mask whites j ∷ []) (λ j. refl)

-- a line has at most eleven windows, so that 33 bytes are enough for all of them and for all rows
windows-most : (size : ℕ) → size < 16 → count_of 16 (inside size) ≤ 11
unfolding all_below count_of inside
windows-most size h = leb→le (count_of 16 (inside size)) 11 (all-elim 16 (λ n. leb (count_of 16 (inside n)) 11) tt size h)

pub windows-fit : (l : Line) (starts : ℕ → Bool) → l.size < 16 → ((j : ℕ) → T (starts j) → T (inside l.size j))
    → length (window_list (blacks l) (whites l) starts) ≤ 33
windows-fit l starts h on =
    let a = windows-count (blacks l) (whites l) starts in
    let b = count-mono 16 starts (inside l.size) on in
    let c = windows-most l.size h in
    omega arith

pub rows_fit : (l : Line) (colour kind : ℕ) → l.size < 16 → length (window_list (blacks l) (whites l) (line_rows_at l colour kind)) ≤ 33
unfolding inside
rows_fit l colour kind h =
    windows-fit l (line_rows_at l colour kind) h
    (λ j t. le→leb (j + 5) l.size (row_inside (eqb colour 1) l.size (own l colour) (other l colour) (kind_of kind) j t))

-- what is asked of a mask's starts is what is asked of the test that the mask is of
pub windows_of : (blacks whites : Stones) (f : ℕ → Bool) → window_list blacks whites (bit (mask_of 16 f)) ≡ window_list blacks whites f
unfolding window_list
windows_of blacks whites f =
    gather_cong 16 (window_item blacks whites (bit (mask_of 16 f))) (window_item blacks whites f)
    (λ j h. ap (λ (b : Bool). only b (j ∷ segment_mask blacks j ∷ segment_mask whites j ∷ [])) (bit_mask 16 f j h))

pub counted_of : (f : ℕ → Bool) → count_of 16 (bit (mask_of 16 f)) ≡ count_of 16 f
counted_of f = count-cong 16 (bit (mask_of 16 f)) f (bit_mask 16 f)

-- ---- a line that is handed back is sound

-- a cell changed on the line, not to both colours
placed-sound : (size : ℕ) (b w : Stones) (i : ℕ) (x y : Bool) → i < size → (x && y) ≡ false → (c : ℕ) → T (sound_at size b w c)
    → T (sound_at size (placed b i x) (placed w i y) c)
unfolding sound_at no_stone
placed-sound size b w i x y h e c t = go (eqb c i) refl
  where
    go : (q : Bool) → eqb c i ≡ q
        → T (not (cond q x (b c) && cond q y (w c)) && (ltb c size || not (cond q x (b c)) && not (cond q y (w c))))
    go true q =
        let on : ltb c size ≡ true = lt-ltb c size (omega (arith, eqb-true c i q)) in
        rw (e, on) tt
    go false q = t

sound-cell : (size : ℕ) (f g f' g' : Stones) (c : ℕ) → f' c ≡ f c → g' c ≡ g c → T (sound_at size f g c) → T (sound_at size f' g' c)
unfolding sound_at no_stone
sound-cell size f g f' g' c p q t = rw (p, q) t

pub changed-sound : (l : Line) (i : ℕ) (black white : Bool) → line_refusal l ≡ 0 → i < l.size → (black && white) ≡ false
    → line_refusal (line_with l i black white) ≡ 0
unfolding line_refusal sound_line
changed-sound l i black white none h e =
    let p = first-none (size_refusal l.size) (unless (sound_line l.size (blacks l) (whites l)) 9) none in
    let s : T (all_below 16 (sound_at l.size (blacks l) (whites l))) = passed (sound_line l.size (blacks l) (whites l)) 8 p.1 in
    none_first (size_refusal l.size) _ p.0
    (pass _ 9
    (all-intro 16 (sound_at l.size (blacks (line_with l i black white)) (whites (line_with l i black white)))
    (λ c k. sound-cell l.size (placed (blacks l) i black) (placed (whites l) i white) (blacks (line_with l i black white))
    (whites (line_with l i black white)) c (bit_mask 16 (placed (blacks l) i black) c k) (bit_mask 16 (placed (whites l) i white) c k)
    (placed-sound l.size (blacks l) (whites l) i black white h e c (all-elim 16 (sound_at l.size (blacks l) (whites l)) s c k)))))

pub new-sound : (size : ℕ) → size_refusal size ≡ 0 → line_refusal (empty_line size) ≡ 0
unfolding line_refusal sound_line sound_at no_stone
new-sound size none =
    none_first (size_refusal size) (unless (sound_line size (bit 0) (bit 0)) 9) none
    (pass (sound_line size (bit 0) (bit 0)) 9 (all-intro 16 (sound_at size (bit 0) (bit 0)) (λ i h. cell i)))
  where
    cell : (i : ℕ) → T (not (bit 0 i && bit 0 i) && (ltb i size || not (bit 0 i) && not (bit 0 i)))
    cell i = rw (bit-none i) (or_right (ltb i size) true tt)

-- the segment of a sound line's window is sound: no question about it is refused 9
pub segment-sound : (l : Line) (j : ℕ) → line_refusal l ≡ 0 → inside l.size j ≡ true → segment_refusal (segment_of l j) ≡ 0
unfolding line_refusal size_refusal segment_refusal inside
segment-sound l j none h =
    let p = first-none (size_refusal l.size) (unless (sound_line l.size (blacks l) (whites l)) 9) none in
    let size = passed (leb 5 l.size && leb l.size 15) 9 p.0 in
    let most : l.size ≤ 15 = leb→le l.size 15 (and_right (leb 5 l.size) (leb l.size 15) size) in
    let fits : j + 5 ≤ l.size = leb-true (j + 5) l.size h in
    pass (sound_segment (segment (blacks l) j) (segment (whites l) j)) 9
    (sound-around l.size (blacks l) (whites l) j (omega arith) (passed (sound_line l.size (blacks l) (whites l)) 8 p.1))
