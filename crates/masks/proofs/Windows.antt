-- The masks that the code computes are the masks of the cell-by-cell tests. Assumes nothing.
use mathlib.Core.Path.{◌≡◌, refl, sym, ap, ap₂, ◌∙◌, subst, fun_ext}
use mathlib.Core.Bool.{Bool, true, false, not, cond, ◌&&◌, ◌||◌, beq, and-true, and-false}
use Prim.Native.Nat.{ℕ, suc, ◌+◌, ◌-◌, ◌*◌, ◌/◌, ◌%◌, ◌^◌, ◌≤◌, ◌<◌}
use native.Mathlib.Nat.{div-le_self, lt_of_le_of_lt, mod-lt, add_comm}
use native.Mathlib.Numerals.{add-one}
use native.Mathlib.Omega.{arith}
use lib.Dec.{T, eqb, leb, ltb, lit<, leb→le, le→leb, ltb→lt, lt→ltb}
use lib.Bits.{bit_and, bit_or, bit_xor, and_lt, or_lt, xor_lt}
use lib.Count.{ones}
use lib.Pow.{ones_sub-lt}
use borrow.Author.Tests.{lt-ltb, le-ltb, le-leb, lt-leb, ne_eqb}
use Rattle.rules.specs.Tools.{any_below}
use Rattle.rules.specs.Bit.{bit, digit, mask_of, count_of}
use Rattle.rules.specs.Line.{Stones, inside, free, count, beside, dead, holds, scores, pair_at, no_stone, open_at, over_at, spans_two, span}
use Rattle.rules.specs.Line.{among}
use Rattle.rules.specs.Line.{through, empty_at, eye_span, is_eye, eye_of_some, eye_cells, spread_at, eyes_of, bound_of, sound_at, sound_line, around}
use Rattle.rules.specs.Line.{segment_mask}
use Rattle.rules.specs.declared.RowKind.{RowKind}
use Rattle.rules.specs.declared.RowKind.TheVariants.{Two, Three, Straight, Sword, Four, Five, Overlining, Overlined}
use Rattle.rules.proofs.Logic.{both_ways, same-leb, along, and_left, and_right, and_intro, any-elim, any-intro, and-flip}
use Rattle.rules.proofs.Logic.{not-leb, not-any, all-cong}
use Rattle.rules.proofs.Tables.{every5, table2, table3, table5, table6}
use Rattle.rules.proofs.Bits.{differ, bit-and, bit-or, bit-xor, bit-shr, bit_not, bit-ones, bit-none, bit-suc, halves, digit_lt, mask-ext}
use Rattle.rules.proofs.Bits.{bit_mask, mask_lt, mask-and, mask-or, mask-not, mask-shl, bit-shl-in, bit_test, bit-one-in, mask-any}
use Rattle.rules.proofs.Bits.{count_ones, bits_of, bit-mod, bit-shl, bit-above}
use Rattle.rules.proofs.Windows.{count-le, scores-last}
use Rattle.masks.specs.Masks.{digit_at, sum_at, Tallied, spelled, placed}

-- ---- what the code computes stays below 2 ^ 16
pub and16 : (a b : ℕ) → a < 2 ^ 16 → b < 2 ^ 16 → bit_and a b < 2 ^ 16
and16 = and_lt 16

pub or16 : (a b : ℕ) → a < 2 ^ 16 → b < 2 ^ 16 → bit_or a b < 2 ^ 16
or16 = or_lt 16

pub xor16 : (a b : ℕ) → a < 2 ^ 16 → b < 2 ^ 16 → bit_xor a b < 2 ^ 16
xor16 = xor_lt 16

pub shr_lt : (w a d : ℕ) → a < 2 ^ w → a / d < 2 ^ w
shr_lt w a d h = lt_of_le_of_lt (div-le_self a d) h

pub shr16 : (a d : ℕ) → a < 2 ^ 16 → a / d < 2 ^ 16
shr16 = shr_lt 16

pub not16 : (a : ℕ) → (2 ^ 16 - 1) - a < 2 ^ 16
not16 a = ones_sub-lt 16 a

pub mask16 : (f : ℕ → Bool) → mask_of 16 f < 2 ^ 16
mask16 f = mask_lt 16 f

pub mod16 : (a : ℕ) → a % 65536 < 2 ^ 16
mod16 a = mod-lt a (lit< tt)

-- `search below` closes the goal that a mask fits
pub ruleset below = (and16, or16, xor16, shr16, not16, mask16, mod16)

-- ---- bit by bit: `simp bits` takes a bit of a mask to the bits of the masks that it is computed from
pub shr1 : (m j : ℕ) → bit (m / 2) j ≡ bit m (j + 1)
shr1 m = bit-shr m 1

pub shr2 : (m j : ℕ) → bit (m / 4) j ≡ bit m (j + 2)
shr2 m = bit-shr m 2

pub shr3 : (m j : ℕ) → bit (m / 8) j ≡ bit m (j + 3)
shr3 m = bit-shr m 3

pub shr4 : (m j : ℕ) → bit (m / 16) j ≡ bit m (j + 4)
shr4 m = bit-shr m 4

pub shr5 : (m j : ℕ) → bit (m / 32) j ≡ bit m (j + 5)
shr5 m = bit-shr m 5

pub ruleset bits = (bit-and, bit-or, bit-xor, shr1, shr2, shr3, shr4, shr5)

-- << 1
pub shl1 : (m j : ℕ) → j < 16 → bit ((m * 2) % 65536) j ≡ (leb 1 j && bit m (j - 1))
shl1 m j k = bit-shl-in m 1 16 j k

-- 1 << i, and all but it
pub one16 : (i j : ℕ) → j < 16 → bit ((1 * 2 ^ i) % 65536) j ≡ eqb j i
one16 i j k = bit-one-in i 16 j k

pub not-one16 : (i j : ℕ) → j < 16 → bit (65535 - (1 * 2 ^ i) % 65536) j ≡ not (eqb j i)
not-one16 i j k = bit_not ((1 * 2 ^ i) % 65536) 16 j (mod16 (1 * 2 ^ i)) k ∙ ap not (one16 i j k)

pub past : (i j : ℕ) → j < 16 → 16 ≤ i → eqb j i ≡ false
past i j k h = ne_eqb j i (λ e. omega arith)

-- a bit set, or cleared
pub set_on : (m i j : ℕ) (on : Bool) → on ≡ true → (bit m j || eqb j i) ≡ placed (bit m) i on j
set_on m i j on e = rw e (table2 (λ b q. b || q) (λ b q. cond q true b) tt (bit m j) (eqb j i))

pub set-off : (m i j : ℕ) (on : Bool) → on ≡ false → (bit m j && not (eqb j i)) ≡ placed (bit m) i on j
set-off m i j on e = rw e (table2 (λ b q. b && not q) (λ b q. cond q false b) tt (bit m j) (eqb j i))

-- ---- a branch of code knows its test by an equation
pub and-on : (a b : Bool) → a ≡ true → b ≡ (a && b)
and-on a b e = rw e

pub and-off : (a b : Bool) → a ≡ false → false ≡ (a && b)
and-off a b e = rw e

pub beq-on : (a b : Bool) → a ≡ true → b ≡ beq a b
beq-on a b e = rw e (go b)
  where
    go : (b : Bool) → b ≡ beq true b
    go true = refl
    go false = refl

pub beq-off : (a b : Bool) → a ≡ false → not b ≡ beq a b
beq-off a b e = rw e (go b)
  where
    go : (b : Bool) → not b ≡ beq false b
    go true = refl
    go false = refl

-- ---- masks of tests, combined: `simp masks` takes what is computed from such masks to one
pub mask-not16 : (f : ℕ → Bool) → 65535 - mask_of 16 f ≡ mask_of 16 (λ j. not (f j))
mask-not16 = mask-not 16

pub mask-shl1 : (f : ℕ → Bool) → (mask_of 16 f * 2) % 65536 ≡ mask_of 16 (λ j. leb 1 j && f (j - 1))
mask-shl1 = mask-shl 16 1

pub ruleset masks = (mask-and, mask-or, mask-not16, mask-shl1)

pub not-bits : (m : ℕ) → m < 2 ^ 16 → 65535 - m ≡ mask_of 16 (λ j. not (bit m j))
not-bits m h = mask-ext 16 _ _ (not16 m) (λ j k. bit_not m 16 j h k)

-- the windows whose last cell has no stone of m
pub not-shr4 : (m : ℕ) → m < 2 ^ 16 → 65535 - m / 16 ≡ mask_of 16 (λ j. not (bit m (j + 4)))
not-shr4 m h = mask-ext 16 _ _ (not16 (m / 16)) (λ j k. bit_not (m / 16) 16 j (shr16 m 16 h) k ∙ ap not (shr4 m j))

-- ---- runs of bits
pub from_some : (i : ℕ) → (65535 * 2 ^ i) % 65536 ≡ mask_of 16 (λ j. leb i j)
from_some i =
    mask-ext 16 _ _ (mod16 (65535 * 2 ^ i))
    (λ j k. bit-shl-in 65535 i 16 j k ∙ ap (λ (b : Bool). leb i j && b) (bit-ones 16 (j - i) ∙ lt-ltb (j - i) 16 (omega arith))
    ∙ and-true (leb i j))

pub from-none : (i : ℕ) → 16 ≤ i → 0 ≡ mask_of 16 (λ j. leb i j)
from-none i h = mask-ext 16 0 _ (lit< tt) (λ j k. bit-none j ∙ sym (lt-leb i j (omega arith)))

-- ---- the windows on the line
pub starts-on : (size j : ℕ) → ltb j (size - 4) ≡ inside size j
unfolding inside
starts-on size j = same-leb (suc j) (size - 4) (j + 5) size (λ a. omega arith) (λ a. omega arith)

-- ---- a window's five cells, and an equation between two functions of them by a computed test
abbrev window : (Bool → Bool → Bool → Bool → Bool → Bool) → ℕ → ℕ → Bool
window f m j = f (bit m j) (bit m (j + 1)) (bit m (j + 2)) (bit m (j + 3)) (bit m (j + 4))

by-table : (f g : Bool → Bool → Bool → Bool → Bool → Bool) → T (every5 (λ a b c d e. beq (f a b c d e) (g a b c d e)))
    → (m j : ℕ) → window f m j ≡ window g m j
by-table f g t m j = table5 f g t (bit m j) (bit m (j + 1)) (bit m (j + 2)) (bit m (j + 3)) (bit m (j + 4))

-- no stone of the other colour
abbrev clear5 : Bool → Bool → Bool → Bool → Bool → Bool
clear5 a b c d e = not (a || b || c || d || e)

pub free-bit : (op j : ℕ) → window clear5 op j ≡ free (bit op) j
unfolding free
free-bit op j = by-table clear5 (λ a b c d e. not a && not b && not c && not d && not e) tt op j

-- the counts' digits: a full adder on three cells, a half adder on two, then the carries
abbrev count5 : Bool → Bool → Bool → Bool → Bool → ℕ
count5 a b c d e = digit a + digit b + digit c + digit d + digit e

abbrev s1 : Bool → Bool → Bool → Bool
s1 a b c = differ (differ a b) c

abbrev c1 : Bool → Bool → Bool → Bool
c1 a b c = a && b || c && differ a b

abbrev ones5 : Bool → Bool → Bool → Bool → Bool → Bool
ones5 a b c d e = differ (s1 a b c) (differ d e)

abbrev twos5 : Bool → Bool → Bool → Bool → Bool → Bool
twos5 a b c d e = differ (differ (c1 a b c) (d && e)) (s1 a b c && differ d e)

abbrev fours5 : Bool → Bool → Bool → Bool → Bool → Bool
fours5 a b c d e = c1 a b c && (d && e) || s1 a b c && differ d e && differ (c1 a b c) (d && e)

pub ones_bit : (a b c d e j : ℕ) → ones5 (bit a j) (bit b j) (bit c j) (bit d j) (bit e j) ≡ bit (sum_at a b c d e j) 0
unfolding sum_at bit
ones_bit a b c d e j = table5 ones5 (λ a b c d e. bit (count5 a b c d e) 0) tt (bit a j) (bit b j) (bit c j) (bit d j) (bit e j)

pub twos-bit : (a b c d e j : ℕ) → twos5 (bit a j) (bit b j) (bit c j) (bit d j) (bit e j) ≡ bit (sum_at a b c d e j) 1
unfolding sum_at bit
twos-bit a b c d e j = table5 twos5 (λ a b c d e. bit (count5 a b c d e) 1) tt (bit a j) (bit b j) (bit c j) (bit d j) (bit e j)

pub fours-bit : (a b c d e j : ℕ) → fours5 (bit a j) (bit b j) (bit c j) (bit d j) (bit e j) ≡ bit (sum_at a b c d e j) 2
unfolding sum_at bit
fours-bit a b c d e j = table5 fours5 (λ a b c d e. bit (count5 a b c d e) 2) tt (bit a j) (bit b j) (bit c j) (bit d j) (bit e j)

-- the five cells of each window tallied: its stones
pub tallied-count : (w my ones twos fours : ℕ) → Tallied w (sum_at my (my / 2) (my / 4) (my / 8) (my / 16)) ones twos fours
    → Tallied w (count (bit my)) ones twos fours
unfolding sum_at count
tallied-count w my ones twos fours t =
    subst (λ (counts : ℕ → ℕ). Tallied w counts ones twos fours) (fun_ext (λ j. simp (shr1, shr2, shr3, shr4))) t

-- ---- a number below 8 against another modulo 8, by three digits
octal : (x : ℕ) → x % 8 ≡ digit (bit x 0) + digit (bit x 1) * 2 + digit (bit x 2) * 4
octal x =
    let a : x ≡ x / 2 * 2 + digit (bit x 0) = halves x in
    let b : x / 2 ≡ x / 2 / 2 * 2 + digit (bit x 1) =
    subst (λ (t : Bool). x / 2 ≡ x / 2 / 2 * 2 + digit t) (sym (bit-suc x 0)) (halves (x / 2)) in
    let c : x / 2 / 2 ≡ x / 2 / 2 / 2 * 2 + digit (bit x 2) =
    subst (λ (t : Bool). x / 2 / 2 ≡ x / 2 / 2 / 2 * 2 + digit t) (sym (bit-suc x 1 ∙ bit-suc (x / 2) 0)) (halves (x / 2 / 2)) in
    omega (arith, digit_lt (bit x 0), digit_lt (bit x 1), digit_lt (bit x 2))

abbrev octal3 : Bool → Bool → Bool → ℕ
octal3 a b c = digit a + digit b * 2 + digit c * 4

pub same-octal : (x n : ℕ) → x < 8
    → (beq (bit n 0) (bit x 0) && beq (bit n 1) (bit x 1) && beq (bit n 2) (bit x 2)) ≡ eqb x (n % 8)
same-octal x n h =
    table6 (λ a b c d e i. beq d a && beq e b && beq i c) (λ a b c d e i. eqb (octal3 a b c) (octal3 d e i)) tt
    (bit x 0) (bit x 1) (bit x 2) (bit n 0) (bit n 1) (bit n 2)
    ∙ ap₂ (λ (y m : ℕ). eqb y m) (sym (octal x) ∙ small) (sym (octal n))
  where
    small : x % 8 ≡ x
    small = omega arith

-- `n & 1 != 0`, `n & 2 != 0`, `n & 4 != 0`
pub has0 : (n : ℕ) → not (eqb (bit_and n 1) 0) ≡ bit n 0
has0 n = bit_test n 0

pub has1 : (n : ℕ) → not (eqb (bit_and n 2) 0) ≡ bit n 1
has1 n = bit_test n 1

pub has2 : (n : ℕ) → not (eqb (bit_and n 4) 0) ≡ bit n 2
has2 n = bit_test n 2

-- ---- the tests, combined

small : (own : Stones) (j : ℕ) → count own j < 8
small own j = omega (arith, count-le own j)

-- where the digits of the tally spell n, the count is n modulo 8
tally-bit : (own : Stones) (n j : ℕ) → j < 16
    → spelled (mask_of 16 (digit_at own 0)) (mask_of 16 (digit_at own 1)) (mask_of 16 (digit_at own 2)) n j ≡ eqb (count own j) (n % 8)
tally-bit own n j k = simp (bit_mask 16) (same-octal (count own j) n (small own j))

pub count-bit : (size : ℕ) (own other : Stones) (n j : ℕ) → j < 16
    → (spelled (mask_of 16 (digit_at own 0)) (mask_of 16 (digit_at own 1)) (mask_of 16 (digit_at own 2)) n j && free other j && inside size j)
    ≡ holds size own other (n % 8) j
unfolding holds
count-bit size own other n j k =
    ap (λ (e : Bool). e && free other j && inside size j) (tally-bit own n j k)
    ∙ table3 (λ e f i. e && f && i) (λ e f i. i && f && e) tt (eqb (count own j) (n % 8)) (free other j) (inside size j)

-- a score is a count without the dead rule, less the windows that the dead rule takes
pub score-bit : (black : Bool) (size : ℕ) (own other : Stones) (n j : ℕ)
    → (holds size own other n j && not (black && beside own j)) ≡ scores black size own other n j
unfolding holds scores dead
score-bit black size own other n j =
    table5 (λ i f e b o. i && f && e && not (b && o)) (λ i f e b o. i && not (not f || b && o) && e) tt
    (inside size j) (free other j) (eqb (count own j) n) black (beside own j)

pub open-bit : (black : Bool) (size : ℕ) (own other : Stones) (n j : ℕ)
    → (scores black size own other n j && (leb 1 j && scores black size own other n (j - 1)) && not (own (j + 4)))
    ≡ open_at black size own other n j
unfolding open_at pair_at no_stone
open-bit black size own other n j = go (scores black size own other n j) (λ t. scores-last black size own other n j t)
  where
    go : (s : Bool) → (T s → other (j + 4) ≡ false) → (s && (leb 1 j && scores black size own other n (j - 1)) && not (own (j + 4)))
        ≡ (leb 1 j && scores black size own other n (j - 1) && s && (not (own (j + 4)) && not (other (j + 4))))
    go true h = rw (h tt) (table3 (λ l p m. (l && p) && not m) (λ l p m. l && p && true && (not m && true)) tt (leb 1 j)
        (scores black size own other n (j - 1)) (own (j + 4)))
    go false h = table3 (λ l p m. false) (λ l p m. l && p && false && m) tt (leb 1 j) (scores black size own other n (j - 1))
        (not (own (j + 4)) && not (other (j + 4)))

pub over-bit : (size : ℕ) (own other : Stones) (n j : ℕ)
    → (holds size own other n j && (leb 1 j && holds size own other n (j - 1))) ≡ over_at size own other n j
unfolding over_at pair_at
over-bit size own other n j =
    table3 (λ s l p. s && (l && p)) (λ s l p. l && p && s) tt (holds size own other n j) (leb 1 j) (holds size own other n (j - 1))

-- ---- the starts of rows through a cell
span_pos : (kind : RowKind) → 1 ≤ span kind
span_pos kind = go (spans_two kind)
  where
    go : (b : Bool) → 1 ≤ cond b 4 5
    go true = omega arith
    go false = omega arith

pub up_to : (j i : ℕ) → ltb j (i + 1) ≡ leb j i
up_to j i = same-leb (suc j) (i + 1) j i (λ a. omega arith) (λ a. omega arith)

pub up-to-all : (first last j : ℕ) → j < 16 → 16 ≤ last → leb first j ≡ (leb first j && leb j last)
up-to-all first last j k h = sym (ap (λ (b : Bool). leb first j && b) (le-leb j last (omega arith)) ∙ and-true (leb first j))

pub through-bit : (kind : RowKind) (i j : ℕ) → (leb (i - (span kind - 1)) j && leb j i) ≡ through kind i j
unfolding among
through-bit kind i j =
    ap (λ (b : Bool). b && leb j i)
    (let p : 1 ≤ span kind = span_pos kind in
    same-leb (i - (span kind - 1)) j (suc i) (j + span kind) (λ a. omega arith) (λ a. omega arith))
    ∙ and-flip (ltb i (j + span kind)) (leb j i)

-- ---- empty cells and eyes

pub empty-bit : (size my op j : ℕ) → (ltb j size && not (bit (bit_or my op) j)) ≡ empty_at size (bit my) (bit op) j
unfolding empty_at no_stone
empty-bit size my op j =
    ap (λ (b : Bool). ltb j size && not b) (bit-or my op j)
    ∙ table3 (λ c a b. c && not (a || b)) (λ c a b. c && (not a && not b)) tt (ltb j size) (bit my j) (bit op j)

-- the cells of a window that a kind's eyes can be on
eye-span : (kind : RowKind) → eye_span kind ≤ 5
eye-span Two = omega arith
eye-span Three = omega arith
eye-span Straight = omega arith
eye-span Sword = omega arith
eye-span Four = omega arith
eye-span Five = omega arith
eye-span Overlining = omega arith
eye-span Overlined = omega arith

pub eye-cells : (kind : RowKind) (e : ℕ) → bit (eye_cells kind) e ≡ ltb e (eye_span kind)
unfolding eye_cells
eye-cells kind e =
    ap (λ (f : ℕ → Bool). f e)
    (bits_of 5 (λ i. ltb i (eye_span kind)) (λ j h. le-ltb j (eye_span kind) (let s : eye_span kind ≤ 5 = eye-span kind in omega arith)))

-- the rows' eyes, each cell once: the starts' cells that a kind's eyes can be on, where they are empty
pub eyes-bit : (size : ℕ) (own other : Stones) (kind : RowKind) (row : ℕ → Bool) (i : ℕ) → i < 16
    → eyes_of size own other (bit (mask_of 16 row)) (bit (eye_cells kind)) i ≡ eye_of_some size own other kind row i
unfolding eyes_of spread_at eye_of_some is_eye among
eyes-bit size own other kind row i k =
    both_ways (any_below 8 spread && empty_at size own other i) (any_below 16 some)
    (λ t.
    let (e, h, u) = any-elim 8 spread (and_left (any_below 8 spread) (empty_at size own other i) t) in
    let near : T (leb e i && bit (mask_of 16 row) (i - e)) = and_right (bit (eye_cells kind) e) _ u in
    let a : e ≤ i = leb→le e i (and_left (leb e i) _ near) in
    let b : e < eye_span kind = ltb→lt e (eye_span kind) (along (eye-cells kind e) (and_left (bit (eye_cells kind) e) _ u)) in
    let l : i - e < 16 = omega arith in
    any-intro 16 some (i - e) l
    (and_intro (row (i - e)) _ (along (bit_mask 16 row (i - e) l) (and_right (leb e i) _ near))
    (and_intro (leb (i - e) i && ltb i (i - e + eye_span kind)) (empty_at size own other i)
    (and_intro (leb (i - e) i) (ltb i (i - e + eye_span kind)) (le→leb (i - e) i (omega arith))
    (lt→ltb i (i - e + eye_span kind) (omega arith)))
    (and_right (any_below 8 spread) (empty_at size own other i) t))))
    (λ t.
    let (j, h, u) = any-elim 16 some t in
    let eye : T (leb j i && ltb i (j + eye_span kind) && empty_at size own other i) = and_right (row j) _ u in
    let on : T (leb j i && ltb i (j + eye_span kind)) = and_left (leb j i && ltb i (j + eye_span kind)) (empty_at size own other i) eye in
    let a : j ≤ i = leb→le j i (and_left (leb j i) (ltb i (j + eye_span kind)) on) in
    let b : i < j + eye_span kind = ltb→lt i (j + eye_span kind) (and_right (leb j i) (ltb i (j + eye_span kind)) on) in
    let s : eye_span kind ≤ 5 = eye-span kind in
    let q : i - (i - j) ≡ j = omega arith in
    and_intro (any_below 8 spread) (empty_at size own other i)
    (any-intro 8 spread (i - j) (omega arith)
    (and_intro (bit (eye_cells kind) (i - j)) _ (along (sym (eye-cells kind (i - j))) (lt→ltb (i - j) (eye_span kind) (omega arith)))
    (and_intro (leb (i - j) i) _ (le→leb (i - j) i (omega arith))
    (along (sym (bit_mask 16 row j h) ∙ ap (bit (mask_of 16 row)) (sym q)) (and_left (row j) _ u)))))
    (and_right (leb j i && ltb i (j + eye_span kind)) (empty_at size own other i) eye))
  where
    spread : ℕ → Bool
    spread e = bit (eye_cells kind) e && (leb e i && bit (mask_of 16 row) (i - e))

    some : ℕ → Bool
    some j = row j && (leb j i && ltb i (j + eye_span kind) && empty_at size own other i)

-- ---- the bound on a line's scores
pub bound-none : (size my op : ℕ) → op < 2 ^ 16 → size < ones op + 5 → 0 ≡ bound_of size (bit my) (bit op)
unfolding bound_of
bound-none size my op h g =
    sym (ap (λ (b : Bool). cond b (count_of 16 (bit my) + 1) 0) (lt-leb (count_of 16 (bit op) + 5) size (omega (arith, count_ones 16 op h))))

pub bound_some : (size my op : ℕ) → my < 2 ^ 16 → op < 2 ^ 16 → ones op + 5 ≤ size → ones my + 1 ≡ bound_of size (bit my) (bit op)
unfolding bound_of
bound_some size my op k h g =
    ap (λ (n : ℕ). n + 1) (count_ones 16 my k)
    ∙ sym (ap (λ (b : Bool). cond b (count_of 16 (bit my) + 1) 0)
    (le-leb (count_of 16 (bit op) + 5) size (omega (arith, count_ones 16 op h))))

-- ---- starts spread over some cells
-- cell i is s + e, for s a start and e one of the cells
abbrev pub spreads : (ℕ → Bool) → (ℕ → Bool) → ℕ → ℕ → Bool
spreads starts cells i e = cells e && (leb e i && starts (i - e))

pub spread_none : (f : ℕ → ℕ → Bool) → 0 ≡ mask_of 16 (λ i. any_below 0 (f i))
unfolding any_below
spread_none f = mask-ext 16 0 _ (lit< tt) (λ j k. bit-none j)

pub spread-more : (f : ℕ → ℕ → Bool) (k : ℕ) → mask_of 16 (λ i. f i k || any_below k (f i)) ≡ mask_of 16 (λ i. any_below (k + 1) (f i))
unfolding any_below
spread-more f k = rw add-one

-- ---- sound lines
-- the cells that are not sound, as a mask
unsound : (size : ℕ) (my op : ℕ) → ℕ → Bool
unsound size my op i = bit my i && bit op i || (bit my i || bit op i) && leb size i

unsound-bit : (size my op i : ℕ) → not (unsound size my op i) ≡ sound_at size (bit my) (bit op) i
unfolding unsound sound_at no_stone
unsound-bit size my op i =
    table3 (λ a b s. not (a && b || (a || b) && s)) (λ a b s. not (a && b) && (not s || not a && not b)) tt (bit my i) (bit op i)
    (leb size i)
    ∙ ap (λ (t : Bool). not (bit my i && bit op i) && (t || not (bit my i) && not (bit op i))) (not-leb size i)

pub sound-mask : (size my op : ℕ) → my < 2 ^ 16 → op < 2 ^ 16
    → eqb (bit_or (bit_and my op) (bit_and (bit_or my op) (mask_of 16 (λ j. leb size j)))) 0 ≡ sound_line size (bit my) (bit op)
unfolding sound_line unsound
sound-mask size my op h k =
    ap (λ (m : ℕ). eqb m 0)
    (mask-ext 16 (bit_or (bit_and my op) (bit_and (bit_or my op) (mask_of 16 (λ j. leb size j)))) (unsound size my op) (search below)
    (λ j l. simp (bit-and, bit-or, bit_mask 16)))
    ∙ twice (eqb (mask_of 16 (unsound size my op)) 0)
    ∙ ap not (mask-any 16 (unsound size my op))
    ∙ not-any 16 (unsound size my op)
    ∙ all-cong 16 (λ i. not (unsound size my op i)) (sound_at size (bit my) (bit op)) (λ i l. unsound-bit size my op i)
  where
    twice : (b : Bool) → b ≡ not (not b)
    twice true = refl
    twice false = refl

-- ---- segments
pub segment-some : (m j : ℕ) → m * 2 / 2 ^ j % 128 ≡ segment_mask (bit m) j
unfolding around
segment-some m j =
    mask-ext 7 (m * 2 / 2 ^ j % 128) _ (mod-lt (m * 2 / 2 ^ j) (lit< tt))
    (λ k h. bit-mod (m * 2 / 2 ^ j) 7 k h ∙ bit-shr (m * 2) j k ∙ bit-shl m 1 (k + j)
    ∙ ap (λ (i : ℕ). leb 1 i && bit m (i - 1)) (add_comm k j))

pub segment-none : (m j : ℕ) → m < 2 ^ 16 → 32 ≤ j → 0 ≡ segment_mask (bit m) j
unfolding around
segment-none m j h l =
    mask-ext 7 0 _ (lit< tt)
    (λ k g. bit-none k ∙ sym
    (ap (λ (b : Bool). leb 1 (j + k) && b) (bit-above m 16 (j + k - 1) h (omega arith)) ∙ and-false (leb 1 (j + k))))
