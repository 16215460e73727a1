-- Laws of the bits of a number, over any width. Assumes nothing.
use mathlib.Core.Path.{◌≡◌, refl, sym, ap, ap₂, ◌∙◌, subst, fun_ext}
use mathlib.Core.Bool.{Bool, true, false, not, ◌&&◌, ◌||◌}
use mathlib.Core.Logic.{◌⊎◌, inl, inr, ⊎_elim}
use Prim.Native.Nat.{ℕ, zero, suc, ◌+◌, ◌-◌, ◌*◌, ◌/◌, ◌%◌, ◌^◌, ◌≤◌, ◌<◌}
use native.Mathlib.Nat.{pow-suc, add_comm, div-add-mod', add-zero, mul-one, mul_assoc, div-one, mod-lt, zero-div, sub-zero}
use native.Mathlib.Nat.{one-mul}
use native.Mathlib.Numerals.{one-add}
use native.Mathlib.Omega.{arith}
use lib.Dec.{T, eqb, leb, ltb, lit<, leb-zero, leb-suc-zero, leb-suc-suc, eqb-zero-suc, eqb-suc-zero, eqb-suc-suc}
use lib.Arith.{lt-one, mod-mul, dbl_pred}
use lib.Count.{ones, ones_step, ones-ones}
use lib.Pow.{shr-shr, pow_pos, ones_sub-lt}
use lib.Bits.{bit_and, bit_or, bit_xor, and_lt, or_lt, and_high, and_mask, and_shr, or_shr, xor_shr, and_mod, or_mod, xor_mod}
use borrow.Author.Tests.{lt-ltb, le-ltb, leb-true, leb-false, eq-eqb, ne_eqb, eqb-true}
use Rattle.rules.specs.Tools.{any_below}
use Rattle.rules.specs.Bit.{bit, digit, mask_of, count_of}
use Rattle.rules.proofs.Logic.{T_true, true-T, no_true, not-intro, not-elim, not-false, not-not, both_ways, any-elim, any-intro}

-- ---- a number's lowest digit
low-cases : (n : ℕ) → (n % 2 ≡ 0) ⊎ (n % 2 ≡ 1)
low-cases n = go (n % 2) (mod-lt n (lit< tt))
  where
    go : (k : ℕ) → k < 2 → (k ≡ 0) ⊎ (k ≡ 1)
    go zero h = inl refl
    go (suc zero) h = inr refl
    go (suc (suc k)) h = absurd (omega arith)

low_digit : (n : ℕ) → n % 2 ≡ digit (eqb (n % 2) 1)
low_digit n = ⊎_elim (λ e. e ∙ ap (λ (x : ℕ). digit (eqb x 1)) (sym e)) (λ e. e ∙ ap (λ (x : ℕ). digit (eqb x 1)) (sym e)) (low-cases n)

pub digit_lt : (b : Bool) → digit b < 2
digit_lt true = lit< tt
digit_lt false = lit< tt

-- the definition of `bit`
pub bit_is : (n k : ℕ) → bit n k ≡ eqb (n / 2 ^ k % 2) 1
unfolding bit
bit_is n k = refl

-- ---- bit 0, and one bit further is half the number
pub bit-zero : (m : ℕ) → bit m 0 ≡ eqb (m % 2) 1
unfolding bit
bit-zero m = ap (λ (x : ℕ). eqb (x % 2) 1) (div-one m)

pub bit-suc : (m j : ℕ) → bit m (suc j) ≡ bit (m / 2) j
unfolding bit
bit-suc m j = ap (λ (x : ℕ). eqb (x % 2) 1) (ap (λ (k : ℕ). m / 2 ^ k) (sym (one-add j)) ∙ sym (shr-shr m 1 j))

pub low_bit : (m : ℕ) → m % 2 ≡ digit (bit m 0)
low_bit m = low_digit m ∙ ap digit (sym (bit-zero m))

-- the digits of a number from its bit 0 and its half
pub halves : (m : ℕ) → m ≡ m / 2 * 2 + digit (bit m 0)
halves m = sym (div-add-mod' m 2) ∙ ap (λ (x : ℕ). m / 2 * 2 + x) (low_bit m)

-- ---- &, | and ^
module _ (op : ℕ → ℕ → ℕ) (bop : Bool → Bool → Bool)
    (shr : (a b k : ℕ) → op a b / 2 ^ k ≡ op (a / 2 ^ k) (b / 2 ^ k))
    (md : (a b k : ℕ) → op a b % 2 ^ k ≡ op (a % 2 ^ k) (b % 2 ^ k))
    (table : (x y : Bool) → eqb (op (digit x) (digit y)) 1 ≡ bop x y) where
  bit-op : (a b j : ℕ) → bit (op a b) j ≡ bop (bit a j) (bit b j)
  unfolding bit
  bit-op a b j =
      ap (λ (x : ℕ). eqb (x % 2) 1) (shr a b j) ∙ ap (λ (x : ℕ). eqb x 1) (md (a / 2 ^ j) (b / 2 ^ j) 1)
      ∙ ap₂ (λ (x y : ℕ). eqb (op x y) 1) (low_digit (a / 2 ^ j)) (low_digit (b / 2 ^ j)) ∙ table (bit a j) (bit b j)

-- the two differ
abbrev pub differ : Bool → Bool → Bool
differ true b = not b
differ false b = b

and-table : (x y : Bool) → eqb (bit_and (digit x) (digit y)) 1 ≡ (x && y)
and-table true true = refl
and-table true false = refl
and-table false true = refl
and-table false false = refl

or-table : (x y : Bool) → eqb (bit_or (digit x) (digit y)) 1 ≡ (x || y)
or-table true true = refl
or-table true false = refl
or-table false true = refl
or-table false false = refl

xor-table : (x y : Bool) → eqb (bit_xor (digit x) (digit y)) 1 ≡ differ x y
xor-table true true = refl
xor-table true false = refl
xor-table false true = refl
xor-table false false = refl

pub bit-and : (a b j : ℕ) → bit (bit_and a b) j ≡ (bit a j && bit b j)
bit-and = bit-op bit_and ◌&&◌ and_shr and_mod and-table

pub bit-or : (a b j : ℕ) → bit (bit_or a b) j ≡ (bit a j || bit b j)
bit-or = bit-op bit_or ◌||◌ or_shr or_mod or-table

pub bit-xor : (a b j : ℕ) → bit (bit_xor a b) j ≡ differ (bit a j) (bit b j)
bit-xor = bit-op bit_xor differ xor_shr xor_mod xor-table

-- ---- shifts
pub bit-shr : (m k j : ℕ) → bit (m / 2 ^ k) j ≡ bit m (j + k)
unfolding bit
bit-shr m k j = ap (λ (x : ℕ). eqb (x % 2) 1) (shr-shr m k j ∙ ap (λ (i : ℕ). m / 2 ^ i) (add_comm k j))

-- ---- a number made of a half and a lowest digit
pub pack-half : (q : ℕ) (b : Bool) → (q * 2 + digit b) / 2 ≡ q
pack-half q true = omega arith
pack-half q false = omega arith

pub pack-zero : (q : ℕ) (b : Bool) → bit (q * 2 + digit b) 0 ≡ b
pack-zero q true = bit-zero (q * 2 + 1) ∙ eq-eqb ((q * 2 + 1) % 2) 1 (omega arith)
pack-zero q false = bit-zero (q * 2 + 0) ∙ ne_eqb ((q * 2 + 0) % 2) 1 (λ e. omega arith)

pub pack-suc : (q : ℕ) (b : Bool) (j : ℕ) → bit (q * 2 + digit b) (suc j) ≡ bit q j
pack-suc q b j = bit-suc (q * 2 + digit b) j ∙ ap (λ (x : ℕ). bit x j) (pack-half q b)

at : {m n : ℕ} (j : ℕ) → m ≡ n → bit m j ≡ bit n j
at j e = ap (λ (x : ℕ). bit x j) e

-- ---- what is cut off above
mod-suc : (m w : ℕ) → m % 2 ^ suc w ≡ (m / 2 % 2 ^ w) * 2 + digit (bit m 0)
mod-suc m w =
    ap (λ (x : ℕ). m % x) (pow-suc 2 w) ∙ mod-mul m (pow_pos w) (lit< tt)
    ∙ ap (λ (x : ℕ). (m / 2 % 2 ^ w) * 2 + x) (low_bit m)

pub bit-mod : (m w j : ℕ) → j < w → bit (m % 2 ^ w) j ≡ bit m j
bit-mod m zero j h = absurd (omega arith)
bit-mod m (suc w) zero h = at 0 (mod-suc m w) ∙ pack-zero (m / 2 % 2 ^ w) (bit m 0)
bit-mod m (suc w) (suc j) h =
    at (suc j) (mod-suc m w) ∙ pack-suc (m / 2 % 2 ^ w) (bit m 0) j ∙ bit-mod (m / 2) w j (omega arith) ∙ sym (bit-suc m j)

-- ---- no bits above the width
pub bit-none : (j : ℕ) → bit 0 j ≡ false
unfolding bit
bit-none j = ap (λ (x : ℕ). eqb (x % 2) 1) (zero-div (2 ^ j))

pub half-below : (m w : ℕ) → m < 2 ^ suc w → m / 2 < 2 ^ w
half-below m w h = let g : m < 2 ^ w * 2 = subst (λ (x : ℕ). m < x) (pow-suc 2 w) h in omega arith

pub bit-above : (m w j : ℕ) → m < 2 ^ w → w ≤ j → bit m j ≡ false
bit-above m zero j hm hj = at j (lt-one hm) ∙ bit-none j
bit-above m (suc w) zero hm hj = absurd (omega arith)
bit-above m (suc w) (suc j) hm hj = bit-suc m j ∙ bit-above (m / 2) w j (half-below m w hm) (omega arith)

-- ---- !: the complement in w bits
not-suc : (a w : ℕ) → a < 2 ^ suc w → (2 ^ suc w - 1) - a ≡ ((2 ^ w - 1) - a / 2) * 2 + digit (not (bit a 0))
not-suc a w h =
    ap (λ (x : ℕ). x - 1 - a) (pow-suc 2 w) ∙ go (bit a 0) (halves a)
  where
    g : a < 2 ^ w * 2
    g = subst (λ (x : ℕ). a < x) (pow-suc 2 w) h

    go : (b : Bool) → a ≡ a / 2 * 2 + digit b → 2 ^ w * 2 - 1 - a ≡ ((2 ^ w - 1) - a / 2) * 2 + digit (not b)
    go true e = omega (arith, g)
    go false e = omega (arith, g)

pub bit_not : (a w j : ℕ) → a < 2 ^ w → j < w → bit ((2 ^ w - 1) - a) j ≡ not (bit a j)
bit_not a zero j ha hj = absurd (omega arith)
bit_not a (suc w) zero ha hj = at 0 (not-suc a w ha) ∙ pack-zero ((2 ^ w - 1) - a / 2) (not (bit a 0))
bit_not a (suc w) (suc j) ha hj =
    at (suc j) (not-suc a w ha) ∙ pack-suc ((2 ^ w - 1) - a / 2) (not (bit a 0)) j
    ∙ bit_not (a / 2) w j (half-below a w ha) (omega arith) ∙ ap not (sym (bit-suc a j))

-- ---- the n low bits set, and one bit set
ones-suc : (n : ℕ) → 2 ^ suc n - 1 ≡ (2 ^ n - 1) * 2 + digit true
ones-suc n = ap (λ (x : ℕ). x - 1) (pow-suc 2 n) ∙ dbl_pred (pow_pos n)

pub bit-ones : (n j : ℕ) → bit (2 ^ n - 1) j ≡ ltb j n
bit-ones zero j = bit-none j ∙ sym (le-ltb j 0 (omega arith))
bit-ones (suc n) zero = at 0 (ones-suc n) ∙ pack-zero (2 ^ n - 1) true ∙ sym (lt-ltb 0 (suc n) (omega arith))
bit-ones (suc n) (suc j) =
    at (suc j) (ones-suc n) ∙ pack-suc (2 ^ n - 1) true j ∙ bit-ones n j ∙ sym (leb-suc-suc (suc j) n)

-- ---- <<, before it is cut off
shift_suc : (a k : ℕ) → a * 2 ^ suc k ≡ a * 2 ^ k * 2 + digit false
shift_suc a k = ap (λ (x : ℕ). a * x) (pow-suc 2 k) ∙ sym (mul_assoc a (2 ^ k) 2) ∙ sym (add-zero (a * 2 ^ k * 2))

pub bit-shl : (a k j : ℕ) → bit (a * 2 ^ k) j ≡ (leb k j && bit a (j - k))
bit-shl a zero j =
    at j (mul-one a) ∙ ap (bit a) (sym (sub-zero j)) ∙ ap (λ (b : Bool). b && bit a (j - 0)) (sym (leb-zero j))
bit-shl a (suc k) zero =
    at 0 (shift_suc a k) ∙ pack-zero (a * 2 ^ k) false ∙ ap (λ (b : Bool). b && bit a (0 - suc k)) (sym (leb-suc-zero k))
bit-shl a (suc k) (suc j) =
    at (suc j) (shift_suc a k) ∙ pack-suc (a * 2 ^ k) false j ∙ bit-shl a k j
    ∙ ap₂ (λ (b : Bool) (i : ℕ). b && bit a i) (sym (leb-suc-suc k j)) (sub-suc j k)
  where
    sub-suc : (j k : ℕ) → j - k ≡ suc j - suc k
    sub-suc j k = omega arith

-- << in w bits, as Rattle has it
pub bit-shl-in : (a k w j : ℕ) → j < w → bit ((a * 2 ^ k) % 2 ^ w) j ≡ (leb k j && bit a (j - k))
bit-shl-in a k w j h = bit-mod (a * 2 ^ k) w j h ∙ bit-shl a k j

pub bit-one : (n j : ℕ) → bit (2 ^ n) j ≡ eqb j n
bit-one zero zero = pack-zero 0 true
bit-one zero (suc j) = pack-suc 0 true j ∙ bit-none j ∙ sym (eqb-suc-zero j)
bit-one (suc n) zero = at 0 (pow-suc 2 n ∙ sym (add-zero (2 ^ n * 2))) ∙ pack-zero (2 ^ n) false ∙ sym (eqb-zero-suc n)
bit-one (suc n) (suc j) =
    at (suc j) (pow-suc 2 n ∙ sym (add-zero (2 ^ n * 2))) ∙ pack-suc (2 ^ n) false j ∙ bit-one n j ∙ sym (eqb-suc-suc j n)

-- ---- two numbers of w bits are equal where their bits are
pub bit-ext : (w a b : ℕ) → a < 2 ^ w → b < 2 ^ w → ((j : ℕ) → j < w → bit a j ≡ bit b j) → a ≡ b
bit-ext zero a b ha hb h = lt-one ha ∙ sym (lt-one hb)
bit-ext (suc w) a b ha hb h =
    halves a
    ∙ ap₂ (λ (x : ℕ) (d : Bool). x * 2 + digit d)
    (bit-ext w (a / 2) (b / 2) (half-below a w ha) (half-below b w hb)
    (λ j k. sym (bit-suc a j) ∙ h (suc j) (omega arith) ∙ bit-suc b j))
    (h 0 (omega arith))
    ∙ sym (halves b)

-- ---- the mask of a test
pub mask_lt : (w : ℕ) (f : ℕ → Bool) → mask_of w f < 2 ^ w
unfolding mask_of
mask_lt zero f = lit< tt
mask_lt (suc w) f =
    let h : mask_of w (λ j. f (suc j)) < 2 ^ w = mask_lt w (λ j. f (suc j)) in
    subst (λ (x : ℕ). mask_of w (λ j. f (suc j)) * 2 + digit (f 0) < x) (sym (pow-suc 2 w)) (omega (arith, digit_lt (f 0)))

pub bit_mask : (w : ℕ) (f : ℕ → Bool) (j : ℕ) → j < w → bit (mask_of w f) j ≡ f j
unfolding mask_of
bit_mask zero f j h = absurd (omega arith)
bit_mask (suc w) f zero h = pack-zero (mask_of w (λ j. f (suc j))) (f 0)
bit_mask (suc w) f (suc j) h =
    pack-suc (mask_of w (λ j. f (suc j))) (f 0) j ∙ bit_mask w (λ j. f (suc j)) j (omega arith)

-- how a mask is proved to be the mask of a test: it fits, and bit for bit it is
pub mask-ext : (w a : ℕ) (f : ℕ → Bool) → a < 2 ^ w → ((j : ℕ) → j < w → bit a j ≡ f j) → a ≡ mask_of w f
mask-ext w a f ha h = bit-ext w a (mask_of w f) ha (mask_lt w f) (λ j k. h j k ∙ sym (bit_mask w f j k))

pub mask-cong : (w : ℕ) (f g : ℕ → Bool) → ((j : ℕ) → j < w → f j ≡ g j) → mask_of w f ≡ mask_of w g
mask-cong w f g h = mask-ext w (mask_of w f) g (mask_lt w f) (λ j k. bit_mask w f j k ∙ h j k)

pub mask-none : (w : ℕ) (f : ℕ → Bool) → ((j : ℕ) → j < w → f j ≡ false) → mask_of w f ≡ 0
mask-none w f h = sym (mask-ext w 0 f (pow_pos w) (λ j l. bit-none j ∙ sym (h j l)))

-- ---- masks of tests, combined: what a caller of functions that give such masks rewrites with
pub mask-and : (w : ℕ) (f g : ℕ → Bool) → bit_and (mask_of w f) (mask_of w g) ≡ mask_of w (λ j. f j && g j)
mask-and w f g =
    mask-ext w (bit_and (mask_of w f) (mask_of w g)) (λ j. f j && g j) (and_lt w (mask_of w f) (mask_of w g) (mask_lt w f) (mask_lt w g))
    (λ j k. bit-and (mask_of w f) (mask_of w g) j ∙ ap₂ (λ (x y : Bool). x && y) (bit_mask w f j k) (bit_mask w g j k))

pub mask-or : (w : ℕ) (f g : ℕ → Bool) → bit_or (mask_of w f) (mask_of w g) ≡ mask_of w (λ j. f j || g j)
mask-or w f g =
    mask-ext w (bit_or (mask_of w f) (mask_of w g)) (λ j. f j || g j) (or_lt w (mask_of w f) (mask_of w g) (mask_lt w f) (mask_lt w g))
    (λ j k. bit-or (mask_of w f) (mask_of w g) j ∙ ap₂ (λ (x y : Bool). x || y) (bit_mask w f j k) (bit_mask w g j k))

pub mask-not : (w : ℕ) (f : ℕ → Bool) → (2 ^ w - 1) - mask_of w f ≡ mask_of w (λ j. not (f j))
mask-not w f =
    mask-ext w ((2 ^ w - 1) - mask_of w f) (λ j. not (f j)) (ones_sub-lt w (mask_of w f))
    (λ j k. bit_not (mask_of w f) w j (mask_lt w f) k ∙ ap not (bit_mask w f j k))

pub mask-shl : (w k : ℕ) (f : ℕ → Bool) → (mask_of w f * 2 ^ k) % 2 ^ w ≡ mask_of w (λ j. leb k j && f (j - k))
mask-shl w k f =
    mask-ext w ((mask_of w f * 2 ^ k) % 2 ^ w) (λ j. leb k j && f (j - k)) (mod-lt (mask_of w f * 2 ^ k) (pow_pos w))
    (λ j h. bit-shl-in (mask_of w f) k w j h ∙ ap (λ (b : Bool). leb k j && b) (bit_mask w f (j - k) (omega arith)))

-- a number of w bits is the mask of its bits
pub mask-self : (w a : ℕ) → a < 2 ^ w → a ≡ mask_of w (bit a)
mask-self w a h = mask-ext w a (bit a) h (λ j k. refl)

-- `n & (1 << k) != 0` is bit k
pub bit_test : (n k : ℕ) → not (eqb (bit_and n (2 ^ k)) 0) ≡ bit n k
bit_test n k =
    ap (λ (x : ℕ). not (eqb x 0)) (ap (bit_and n) one_bit ∙ and_high n 1 k ∙ ap (λ (x : ℕ). x * 2 ^ k) (low_digit (n / 2 ^ k)))
    ∙ go (eqb (n / 2 ^ k % 2) 1) ∙ sym (bit_is n k)
  where
    one_bit : 2 ^ k ≡ 2 ^ (1 + k) - 2 ^ k
    one_bit = sub-double (2 ^ k) ∙ ap (λ (x : ℕ). x - 2 ^ k) (sym (pow-suc 2 k) ∙ ap (λ (i : ℕ). 2 ^ i) (sym (one-add k)))
      where
        sub-double : (x : ℕ) → x ≡ x * 2 - x
        sub-double x = omega arith

    go : (b : Bool) → not (eqb (digit b * 2 ^ k) 0) ≡ b
    go true = ap not (ne_eqb (1 * 2 ^ k) 0 (λ e. let p : 0 < 2 ^ k = pow_pos k in omega arith))
    go false = ap not (eq-eqb (0 * 2 ^ k) 0 (omega arith))

-- `m >> k & 1 == 1` is bit k
pub bit-read : (m k : ℕ) → eqb (bit_and (m / 2 ^ k) 1) 1 ≡ bit m k
bit-read m k = ap (λ (x : ℕ). eqb x 1) (and_mask (m / 2 ^ k) 1) ∙ sym (bit_is m k)

-- `1 << i` in w bits
pub bit-one-in : (i w j : ℕ) → j < w → bit ((1 * 2 ^ i) % 2 ^ w) j ≡ eqb j i
bit-one-in i w j h = bit-mod (1 * 2 ^ i) w j h ∙ ap (λ (x : ℕ). bit x j) (one-mul (2 ^ i)) ∙ bit-one i j

-- a mask is not 0 where some bit is set
pub mask-any : (w : ℕ) (f : ℕ → Bool) → not (eqb (mask_of w f) 0) ≡ any_below w f
mask-any w f =
    both_ways (not (eqb (mask_of w f) 0)) (any_below w f)
    (λ t. not-not (any_below w f) (λ n. not-elim (eqb (mask_of w f) 0) t (true-T (eq-eqb (mask_of w f) 0 (empty n)))))
    (λ t. not-intro (eqb (mask_of w f) 0) (λ z. let s = any-elim w f t in set-bit s.0 s.1 s.2 (eqb-true (mask_of w f) 0 (T_true z))))
  where
    empty : T (not (any_below w f)) → mask_of w f ≡ 0
    empty n =
        bit-ext w (mask_of w f) 0 (mask_lt w f) (pow_pos w)
        (λ j k. bit_mask w f j k ∙ not-false (not-intro (f j) (λ t. not-elim (any_below w f) n (any-intro w f j k t))) ∙ sym (bit-none j))

    set-bit : (j : ℕ) → j < w → T (f j) → mask_of w f ≡ 0 → ⊥
    set-bit j k t z = no_true (sym (bit-none j) ∙ at j (sym z) ∙ bit_mask w f j k ∙ T_true t)

-- ---- how many bits are set
pub count-cong : (w : ℕ) (f g : ℕ → Bool) → ((j : ℕ) → j < w → f j ≡ g j) → count_of w f ≡ count_of w g
unfolding count_of
count-cong zero f g h = refl
count-cong (suc w) f g h =
    ap₂ (λ (b : Bool) (n : ℕ). digit b + n) (h 0 (omega arith))
    (count-cong w (λ j. f (suc j)) (λ j. g (suc j)) (λ j k. h (suc j) (omega arith)))

pub count-mono : (w : ℕ) (f g : ℕ → Bool) → ((j : ℕ) → T (f j) → T (g j)) → count_of w f ≤ count_of w g
unfolding count_of
count-mono zero f g h = omega arith
count-mono (suc w) f g h =
    omega (arith, digit-mono (f 0) (g 0) (h 0), count-mono w (λ j. f (suc j)) (λ j. g (suc j)) (λ j. h (suc j)))
  where
    digit-mono : (a b : Bool) → (T a → T b) → digit a ≤ digit b
    digit-mono true true k = omega arith
    digit-mono true false k = absurd (k tt)
    digit-mono false b k = omega arith

pub count-le : (w : ℕ) (f : ℕ → Bool) → count_of w f ≤ w
unfolding count_of
count-le zero f = omega arith
count-le (suc w) f = omega (arith, digit-le (f 0), count-le w (λ j. f (suc j)))
  where
    digit-le : (b : Bool) → digit b ≤ 1
    digit-le true = omega arith
    digit-le false = omega arith

pub count_ones : (w n : ℕ) → n < 2 ^ w → ones n ≡ count_of w (bit n)
unfolding count_of
count_ones zero n h = ap ones (lt-one h) ∙ ones-ones 0
count_ones (suc w) n h =
    ones_step n
    ∙ ap₂ (λ (a b : ℕ). a + b) (low_bit n)
    (count_ones w (n / 2) (half-below n w h) ∙ count-cong w (bit (n / 2)) (λ j. bit n (suc j)) (λ j k. sym (bit-suc n j)))

-- ---- from a mask back to its test: at every place, where the test fails past the width
pub bits_of : (w : ℕ) (f : ℕ → Bool) → ((j : ℕ) → w ≤ j → f j ≡ false) → bit (mask_of w f) ≡ f
bits_of w f h = fun_ext (λ j. go j (leb w j) refl)
  where
    go : (j : ℕ) (b : Bool) → leb w j ≡ b → bit (mask_of w f) j ≡ f j
    go j true e = bit-above (mask_of w f) w j (mask_lt w f) (leb-true w j e) ∙ sym (h j (leb-true w j e))
    go j false e = bit_mask w f j (leb-false w j e)
