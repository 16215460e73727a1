-- Words of 64 places: what the code computes fits, and the word of four masks and back. Assumes nothing.
use mathlib.Core.Path.{◌≡◌, refl, sym, ap, ap₂, ◌∙◌}
use mathlib.Core.Bool.{Bool, true, false, not, ◌&&◌, ◌||◌, cond, beq, or-false, and-false}
use mathlib.Core.List.{List, [], ◌∷◌}
use Prim.Native.Nat.{ℕ, zero, suc, ◌+◌, ◌-◌, ◌*◌, ◌/◌, ◌%◌, ◌^◌, ◌≤◌, ◌<◌}
use native.Mathlib.Nat.{mod-lt, add-zero}
use native.Mathlib.Omega.{arith}
use lib.Dec.{T, eqb, leb, ltb, lit<, eqb→eq, leb→le, le→leb, ltb→lt, lt→ltb}
use lib.ListN.{get_or}
use lib.Bits.{bit_and, bit_or, bit_xor, and_lt, or_lt, xor_lt, and_mask}
use lib.Pow.{ones_sub-lt}
use borrow.Author.Tests.{le-leb, eq-eqb, ne_eqb, leb-true, leb-false, ltb-true, ltb-false}
use Rattle.rules.specs.Tools.{any_below, all_below, tab}
use Rattle.rules.specs.Bit.{bit, mask_of}
use Rattle.rules.specs.Line.{Stones, free, beside, dead, among}
use Rattle.rules.specs.Point.{cell_no}
use Rattle.rules.specs.Grid.{starts_of, numbered}
use Rattle.rules.proofs.Logic.{true-T, all-elim, both_ways, and_left, and_right, and_intro, and-flip, any-elim, any-intro, any-cong}
use Rattle.rules.proofs.Tables.{table2, table4, beq-eq}
use Rattle.rules.proofs.Bits.{bit-or, bit-mod, bit-shr, bit-shl-in, bit-one-in, bit-above, bit_mask}
use Rattle.rules.proofs.Bits.{mask-and, mask-not, mask-ext, mask-cong}
use Rattle.masks.proofs.Windows.{shr_lt, shr1, shr2, shr3, shr4}
use Rattle.near.specs.Places.{place_in, spot_at, reaching}

-- ---- what the code computes stays below 2 ^ 64: `search wide` closes the goal that a word fits
pub and64 : (a b : ℕ) → a < 2 ^ 64 → b < 2 ^ 64 → bit_and a b < 2 ^ 64
and64 = and_lt 64

pub or64 : (a b : ℕ) → a < 2 ^ 64 → b < 2 ^ 64 → bit_or a b < 2 ^ 64
or64 = or_lt 64

pub xor64 : (a b : ℕ) → a < 2 ^ 64 → b < 2 ^ 64 → bit_xor a b < 2 ^ 64
xor64 = xor_lt 64

pub shr64 : (a d : ℕ) → a < 2 ^ 64 → a / d < 2 ^ 64
shr64 = shr_lt 64

pub not64 : (a : ℕ) → (2 ^ 64 - 1) - a < 2 ^ 64
not64 = ones_sub-lt 64

pub mod64 : (a : ℕ) → a % 2 ^ 64 < 2 ^ 64
mod64 a = mod-lt a (lit< tt)

pub ruleset wide = (and64, or64, xor64, shr64, not64, mod64)

-- << 1
pub shl64 : (m j : ℕ) → j < 64 → bit ((m * 2) % 2 ^ 64) j ≡ (leb 1 j && bit m (j - 1))
shl64 m j k = bit-shl-in m 1 64 j k

-- ---- places: place 16d + j is cell j of the line in direction d

-- a mask of 16 bits, moved to the places of direction n
lane : (m n k : ℕ) → m < 65536 → (leb (16 * n) k && bit m (k - 16 * n)) ≡ (eqb (k / 16) n && bit m (k % 16))
lane m n k h = go (leb (16 * n) k) refl (ltb k (16 * n + 16)) refl
  where
    go : (a : Bool) → leb (16 * n) k ≡ a → (b : Bool) → ltb k (16 * n + 16) ≡ b
        → (leb (16 * n) k && bit m (k - 16 * n)) ≡ (eqb (k / 16) n && bit m (k % 16))
    go false e b f =
        let l : k < 16 * n = leb-false (16 * n) k e in
        ap (λ (x : Bool). x && bit m (k - 16 * n)) e
        ∙ sym (ap (λ (x : Bool). x && bit m (k % 16)) (ne_eqb (k / 16) n (λ q. omega arith)))
    go true e true f =
        let l : 16 * n ≤ k = leb-true (16 * n) k e in
        let u : k < 16 * n + 16 = ltb-true k (16 * n + 16) f in
        ap₂ (λ (x : Bool) (i : ℕ). x && bit m i) e (same l u)
        ∙ sym (ap (λ (x : Bool). x && bit m (k % 16)) (eq-eqb (k / 16) n (omega arith)))
      where
        same : 16 * n ≤ k → k < 16 * n + 16 → k - 16 * n ≡ k % 16
        same l u = omega arith
    go true e false f =
        let u : 16 * n + 16 ≤ k = ltb-false k (16 * n + 16) f in
        ap (λ (x : Bool). leb (16 * n) k && x) (bit-above m 16 (k - 16 * n) h (omega arith)) ∙ and-false (leb (16 * n) k)
        ∙ sym (ap (λ (x : Bool). x && bit m (k % 16)) (ne_eqb (k / 16) n (λ q. omega arith)))

-- ---- four masks as one word

pub join-places : (a b c d : ℕ) → a < 65536 → b < 65536 → c < 65536 → d < 65536
    → bit_or (bit_or (bit_or a ((b * 65536) % 18446744073709551616)) ((c * 4294967296) % 18446744073709551616))
    ((d * 281474976710656) % 18446744073709551616)
    ≡ mask_of 64 (place_in (a ∷ b ∷ c ∷ d ∷ []))
unfolding place_in
join-places a b c d ha hb hc hd =
    mask-ext 64 _ _
    (or_lt 64 _ _
    (or_lt 64 _ _ (or_lt 64 a _ (omega arith) (mod-lt (b * 65536) (lit< tt))) (mod-lt (c * 4294967296) (lit< tt)))
    (mod-lt (d * 281474976710656) (lit< tt)))
    (λ k l.
    bit-or _ _ k
    ∙ ap₂ (λ (x y : Bool). x || y)
    (bit-or _ _ k
    ∙ ap₂ (λ (x y : Bool). x || y)
    (bit-or _ _ k
    ∙ ap₂ (λ (x y : Bool). x || y) (first k) (bit-shl-in b 16 64 k l ∙ lane b 1 k hb))
    (bit-shl-in c 32 64 k l ∙ lane c 2 k hc))
    (bit-shl-in d 48 64 k l ∙ lane d 3 k hd)
    ∙ pick (k / 16) (omega arith) (k % 16))
  where
    first : (k : ℕ) → bit a k ≡ (eqb (k / 16) 0 && bit a (k % 16))
    first k = sym (ap₂ (λ (x : Bool) (i : ℕ). x && bit a i) (le-leb 0 k (omega arith)) (omega arith)) ∙ lane a 0 k ha

    pick : (q : ℕ) → q < 4 → (i : ℕ)
        → ((eqb q 0 && bit a i || eqb q 1 && bit b i) || eqb q 2 && bit c i || eqb q 3 && bit d i)
        ≡ bit (get_or (a ∷ b ∷ c ∷ d ∷ []) q 0) i
    pick zero h i = simp or-false
    pick (suc zero) h i = simp or-false
    pick (suc (suc zero)) h i = simp or-false
    pick (suc (suc (suc zero))) h i = refl
    pick (suc (suc (suc (suc q)))) h i = absurd (omega arith)

-- four masks, taken one by one
pub four-places : (masks : List ℕ) {r : ℕ} → r ≡ mask_of 64 (place_in
    (get_or masks 0 0 ∷ get_or masks 1 0 ∷ get_or masks 2 0 ∷ get_or masks 3 0 ∷ []))
    → r ≡ mask_of 64 (place_in masks)
unfolding place_in
four-places masks e = e ∙ mask-cong 64 _ _ (λ k l. pick (k / 16) (omega arith) (k % 16))
  where
    pick : (q : ℕ) → q < 4 → (i : ℕ)
        → bit (get_or (get_or masks 0 0 ∷ get_or masks 1 0 ∷ get_or masks 2 0 ∷ get_or masks 3 0 ∷ []) q 0) i ≡ bit (get_or masks q 0) i
    pick zero h i = refl
    pick (suc zero) h i = refl
    pick (suc (suc zero)) h i = refl
    pick (suc (suc (suc zero))) h i = refl
    pick (suc (suc (suc (suc q)))) h i = absurd (omega arith)

-- the word of four masks that a test of direction and cell gives
pub joined-masks : (f : ℕ → ℕ → Bool) {a b c d r : ℕ} → a ≡ mask_of 16 (f 0) → b ≡ mask_of 16 (f 1) → c ≡ mask_of 16 (f 2)
    → d ≡ mask_of 16 (f 3) → r ≡ mask_of 64 (place_in (a ∷ b ∷ c ∷ d ∷ [])) → r ≡ mask_of 64 (λ k. f (k / 16) (k % 16))
unfolding place_in
joined-masks f ea eb ec ed e =
    e ∙ simp (ea, eb, ec, ed) (mask-cong 64 _ _ (λ k l. pick (k / 16) (omega arith) (k % 16) (omega arith)))
  where
    pick : (q : ℕ) → q < 4 → (i : ℕ) → i < 16
        → bit (get_or (mask_of 16 (f 0) ∷ mask_of 16 (f 1) ∷ mask_of 16 (f 2) ∷ mask_of 16 (f 3) ∷ []) q 0) i ≡ f q i
    pick zero h i l = bit_mask 16 (f 0) i l
    pick (suc zero) h i l = bit_mask 16 (f 1) i l
    pick (suc (suc zero)) h i l = bit_mask 16 (f 2) i l
    pick (suc (suc (suc zero))) h i l = bit_mask 16 (f 3) i l
    pick (suc (suc (suc (suc q)))) h i l = absurd (omega arith)

-- ---- and back

pub low-places : (m : ℕ) → bit_and m 65535 ≡ mask_of 16 (bit m)
low-places m = and_mask m 16 ∙ mask-ext 16 (m % 65536) (bit m) (mod-lt m (lit< tt)) (λ j l. bit-mod m 16 j l)

pub parted-masks : (m : ℕ) {a b c d : ℕ} → a ≡ mask_of 16 (bit m) → b ≡ mask_of 16 (bit (m / 65536)) → c ≡ mask_of 16 (bit (m / 4294967296))
    → d ≡ mask_of 16 (bit (m / 281474976710656)) → (a ∷ b ∷ c ∷ d ∷ []) ≡ tab 4 (λ d. mask_of 16 (λ j. bit m (16 * d + j)))
unfolding tab
parted-masks m ea eb ec ed =
    rw (ea ∙ mask-cong 16 (bit m) (λ j. bit m (16 * 0 + j)) (λ j l. ap (bit m) (zero-on j)), eb ∙ moved 1, ec ∙ moved 2, ed ∙ moved 3) refl
  where
    zero-on : (j : ℕ) → j ≡ 16 * 0 + j
    zero-on j = omega arith

    moved : (n : ℕ) → mask_of 16 (bit (m / 2 ^ (16 * n))) ≡ mask_of 16 (λ j. bit m (16 * n + j))
    moved n = mask-cong 16 _ _ (λ j l. bit-shr m (16 * n) j ∙ ap (bit m) (omega arith))

-- ---- the starts that four masks name, by their numbers: all but those at a line's last place

pub named-low : (masks : List ℕ) (d j : ℕ) → d < 4 → T (starts_of masks d j) → j < 15
unfolding starts_of
named-low masks d j hd t = ltb→lt j 15 (and_left (ltb j 15) (bit (get_or masks d 0) j) t)

pub named-places : (masks : List ℕ) → bit_and (mask_of 64 (place_in masks)) 9223231297218904063 ≡ mask_of 64 (numbered (starts_of masks))
unfolding numbered starts_of place_in all_below bit
named-places masks =
    ap (bit_and (mask_of 64 (place_in masks))) kept ∙ mask-and 64 (place_in masks) (λ k. ltb (k % 16) 15)
    ∙ mask-cong 64 _ _ (λ k l. and-flip (place_in masks k) (ltb (k % 16) 15))
  where
    kept : 9223231297218904063 ≡ mask_of 64 (λ k. ltb (k % 16) 15)
    kept =
        mask-ext 64 9223231297218904063 (λ k. ltb (k % 16) 15) (lit< tt)
        (λ k l. beq-eq (bit 9223231297218904063 k) (ltb (k % 16) 15)
        (all-elim 64 (λ k. beq (bit 9223231297218904063 k) (ltb (k % 16) 15)) tt k l))

-- ---- the windows that are free and not dead

pub alive-mask : (black : Bool) (own other : Stones) {f b : ℕ} → f ≡ mask_of 64 (free other) → b ≡ mask_of 64 (λ k. black && beside own k)
    → bit_and f ((2 ^ 64 - 1) - b) ≡ mask_of 64 (λ k. not (dead black own other k))
unfolding dead
alive-mask black own other ef eb =
    ap₂ bit_and ef (ap (λ (x : ℕ). (2 ^ 64 - 1) - x) eb ∙ mask-not 64 (λ k. black && beside own k))
    ∙ mask-and 64 (free other) (λ k. not (black && beside own k))
    ∙ mask-cong 64 _ _ (λ k l. table2 (λ f d. f && not d) (λ f d. not (not f || d)) tt (free other k) (black && beside own k))

-- ---- the places from which a row reaches the point

-- a cell's number is small for any code of eight bits, so that it can be shifted by
cell-le : (d p : ℕ) → cell_no d p ≤ p / 15 + 14
unfolding cell_no
cell-le zero p = omega arith
cell-le (suc zero) p = omega arith
cell-le (suc (suc zero)) p = either (ltb (p / 15 + 14 - p % 15) 14)
  where
    either : (b : Bool) → cond b (p / 15) (p % 15) ≤ p / 15 + 14
    either true = omega arith
    either false = omega arith
cell-le (suc (suc (suc d))) p = either (ltb (p / 15 + p % 15) 14)
  where
    either : (b : Bool) → cond b (p / 15) (14 - p % 15) ≤ p / 15 + 14
    either true = omega arith
    either false = omega arith

pub cell-lt : (d p : ℕ) → p < 256 → cell_no d p < 40
cell-lt d p h = omega (arith, cell-le d p)

-- the bit of a cell alone
pub spot-place : (c : ℕ) → c < 40 → mask_of 16 (bit ((1 * 2 ^ c) % 2 ^ 64)) ≡ mask_of 16 (λ j. eqb j c)
spot-place c h = mask-cong 16 _ _ (λ j l. bit-one-in c 64 j (omega arith))

-- four or five places, each moved on by one
pub four-moved : (m k : ℕ) → (bit m k || bit (m / 2) k || bit (m / 4) k || bit (m / 8) k) ≡ any_below 4 (λ i. bit m (k + i))
unfolding any_below
four-moved m k =
    rw (shr1 m k, shr2 m k, shr3 m k)
    (table4 (λ a b c d. a || b || c || d) (λ a b c d. d || (c || (b || (a || false)))) tt (bit m k) (bit m (k + 1)) (bit m (k + 2))
    (bit m (k + 3))
    ∙ ap (λ (x : ℕ). bit m (k + 3) || (bit m (k + 2) || (bit m (k + 1) || (bit m x || false)))) (sym (add-zero k)))

-- .. the fifth after the four
pub five-after : (m k : ℕ) → (any_below 4 (λ i. bit m (k + i)) || bit (m / 16) k) ≡ any_below 5 (λ i. bit m (k + i))
unfolding any_below
five-after m k = rw (shr4 m k) (table2 (λ a b. a || b) (λ a b. b || a) tt (any_below 4 (λ i. bit m (k + i))) (bit m (k + 4)))

-- n cells from j on hold cell c
hit : (n j c : ℕ) → any_below n (λ i. eqb (j + i) c) ≡ among n j c
unfolding among
hit n j c =
    both_ways (any_below n (λ i. eqb (j + i) c)) (leb j c && ltb c (j + n))
    (λ t.
    let (i, h, u) = any-elim n (λ i. eqb (j + i) c) t in
    let e : j + i ≡ c = eqb→eq (j + i) c u in
    and_intro (leb j c) (ltb c (j + n)) (le→leb j c (omega arith)) (lt→ltb c (j + n) (omega arith)))
    (λ t.
    let a = leb→le j c (and_left (leb j c) (ltb c (j + n)) t) in
    let b = ltb→lt c (j + n) (and_right (leb j c) (ltb c (j + n)) t) in
    any-intro n (λ i. eqb (j + i) c) (c - j) (omega arith) (true-T (eq-eqb (j + (c - j)) c (omega arith))))

-- a row that ends on its line starts in reach of p where one of its cells is p
pub reach-place : (n p d j : ℕ) {s r : ℕ} → d < 4 → j < 16 → j + n ≤ 16 → s ≡ mask_of 64 (spot_at p)
    → r ≡ mask_of 64 (λ k. any_below n (λ i. bit s (k + i))) → bit r (16 * d + j) ≡ among n j (cell_no d p)
unfolding spot_at
reach-place n p d j {s} {r} hd hj h es er =
    ap (λ (x : ℕ). bit x (16 * d + j)) er
    ∙ bit_mask 64 (λ k. any_below n (λ i. bit s (k + i))) (16 * d + j) (omega arith)
    ∙ any-cong n _ _ (λ i l. on i l)
    ∙ hit n j (cell_no d p)
  where
    on : (i : ℕ) → i < n → bit s (16 * d + j + i) ≡ eqb (j + i) (cell_no d p)
    on i l =
        ap (λ (x : ℕ). bit x (16 * d + j + i)) es ∙ bit_mask 64 (spot_at p) (16 * d + j + i) (omega arith)
        ∙ ap₂ (λ (a b : ℕ). eqb b (cell_no a p)) (omega arith) (omega arith)

-- what is read of places that reach p
pub reached : (n p m : ℕ) {s r : ℕ} {t : List ℕ} → s ≡ mask_of 64 (spot_at p) → r ≡ mask_of 64 (λ k. any_below n (λ i. bit s (k + i)))
    → t ≡ tab 4 (λ d. mask_of 16 (λ j. bit (bit_and m r) (16 * d + j))) → t ≡ reaching n p m
unfolding reaching
reached n p m es er et =
    et ∙ ap (λ (x : ℕ). tab 4 (λ d. mask_of 16 (λ j. bit (bit_and m x) (16 * d + j))))
    (er ∙ ap (λ (x : ℕ). mask_of 64 (λ k. any_below n (λ i. bit x (k + i)))) es)
