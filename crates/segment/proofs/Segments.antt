-- Segments: computed tests of all bytes, the tests that `matches` makes of a segment, and the signed score. Assumes nothing.
use mathlib.Core.Path.{◌≡◌, refl, sym, ap, ◌∙◌}
use mathlib.Core.Bool.{Bool, true, false, not, ◌&&◌, cond, beq, and-true}
use Prim.Native.Nat.{ℕ, ◌+◌, ◌-◌, ◌*◌, ◌/◌, ◌<◌}
use native.Mathlib.Omega.{arith}
use lib.Dec.{T, eqb, ltb, eqb→eq, ltb→lt}
use lib.IntN.{pos, negsuc}
use lib.Bits.{bit_and}
use lib.Count.{ones}
use mir.Syntax.{w8}
use mir.Val.{SFits, to_z, of_z}
use mir.Facts.{to_z-of_z, sfits_lit}
use borrow.Author.Tests.{lt-ltb}
use Rattle.rules.specs.Tools.{all_below}
use Rattle.rules.specs.Bit.{bit, digit, mask_of}
use Rattle.rules.specs.Line.{Stones, inside, free, count, beside, dead, score, scores, holds, no_stone, stones_mask, eye_cells, wanted}
use Rattle.rules.specs.declared.RowKind.{RowKind}
use Rattle.rules.specs.declared.RowKind.TheVariants.{Two, Three, Straight, Sword, Four, Five, Overlining, Overlined}
use Rattle.rules.proofs.Logic.{true-T, all-elim}
use Rattle.rules.proofs.Tables.{beq-eq, table5}
use Rattle.rules.proofs.Windows.{count-le, scores-last}
use Rattle.segment.specs.declared.segment.Segment.{Segment}
use Rattle.segment.specs.Segments.{segment_own, segment_other, is_dead}
use Rattle.segment.specs.Rows.{unfilled, segment_scores, segment_holds}

-- an equation of every byte, by a computed test
byte-test : (f g : ℕ → Bool) → T (all_below 256 (λ m. beq (f m) (g m))) → (m : ℕ) → m < 256 → f m ≡ g m
byte-test f g t m h = beq-eq (f m) (g m) (all-elim 256 (λ m. beq (f m) (g m)) t m h)

byte-number : (f g : ℕ → ℕ) → T (all_below 256 (λ m. eqb (f m) (g m))) → (m : ℕ) → m < 256 → f m ≡ g m
byte-number f g t m h = eqb→eq (f m) (g m) (all-elim 256 (λ m. eqb (f m) (g m)) t m h)

pub clear : (op : ℕ) → op < 256 → eqb (bit_and op 62) 0 ≡ free (bit op) 1
unfolding free bit all_below
clear = byte-test (λ op. eqb (bit_and op 62) 0) (λ op. free (bit op) 1) tt

pub beside-byte : (my : ℕ) → my < 256 → not (eqb (bit_and my 65) 0) ≡ beside (bit my) 1
unfolding beside bit all_below
beside-byte = byte-test (λ my. not (eqb (bit_and my 65) 0)) (λ my. beside (bit my) 1) tt

pub stones-byte : (my : ℕ) → my < 256 → bit_and my 62 / 2 ≡ stones_mask (bit my) 1
unfolding stones_mask mask_of bit all_below
stones-byte = byte-number (λ my. bit_and my 62 / 2) (λ my. stones_mask (bit my) 1) tt

pub count-byte : (my : ℕ) → my < 256 → ones (bit_and my 62) ≡ count (bit my) 1
unfolding count bit all_below ones
count-byte = byte-number (λ my. ones (bit_and my 62)) (λ my. count (bit my) 1) tt

pub count_small : (my : ℕ) → my < 256 → ones (bit_and my 62) < 256
unfolding all_below ones
count_small my h = ltb→lt (ones (bit_and my 62)) 256 (all-elim 256 (λ m. ltb (ones (bit_and m 62)) 256) tt my h)

-- the cells that a five still wants
pub wanted-none : (black : Bool) (my op : ℕ) → dead black (bit my) (bit op) 1 ≡ true → 0 ≡ wanted black (bit my) (bit op) 1
unfolding wanted mask_of
wanted-none black my op e = rw e

not-stones : (my : ℕ) → my < 256 → bit_and (255 - stones_mask (bit my) 1) 31 ≡ mask_of 5 (λ k. not (bit my (1 + k)))
unfolding stones_mask mask_of bit all_below
not-stones = byte-number (λ my. bit_and (255 - stones_mask (bit my) 1) 31) (λ my. mask_of 5 (λ k. not (bit my (1 + k)))) tt

pub wanted-some : (black : Bool) (my op : ℕ) → my < 256 → dead black (bit my) (bit op) 1 ≡ false
    → bit_and (255 - stones_mask (bit my) 1) 31 ≡ wanted black (bit my) (bit op) 1
unfolding wanted
wanted-some black my op h e = rw e (not-stones my h)

-- the cells that a row has left to fill: of each byte and kind, by a computed test
unfilled-of : (k : RowKind) → T (all_below 256 (λ my. eqb (bit_and (255 - stones_mask (bit my) 1) (eye_cells k)) (unfilled (bit my) k 1)))
unfolding all_below stones_mask eye_cells unfilled mask_of bit
unfilled-of Two = tt
unfilled-of Three = tt
unfilled-of Straight = tt
unfilled-of Sword = tt
unfilled-of Four = tt
unfilled-of Five = tt
unfilled-of Overlining = tt
unfilled-of Overlined = tt

pub unfilled-byte : (my : ℕ) (k : RowKind) → my < 256 → bit_and (255 - stones_mask (bit my) 1) (eye_cells k) ≡ unfilled (bit my) k 1
unfilled-byte my k h = byte-number (λ my. bit_and (255 - stones_mask (bit my) 1) (eye_cells k)) (λ my. unfilled (bit my) k 1)
    (unfilled-of k) my h

-- ---- a segment's window: what the two tests of it say
pub segment-dead : (colour n : ℕ) (s : Segment) → is_dead s colour ≡ true → false ≡ segment_scores colour n s
unfolding scores inside
segment-dead colour n s e = rw e

pub segment-alive : (colour n : ℕ) (s : Segment) → is_dead s colour ≡ false → eqb (count (segment_own s colour) 1) n ≡ segment_scores colour n s
unfolding scores inside
segment-alive colour n s e = rw e

pub segment-free : (colour n : ℕ) (s : Segment) → free (segment_other s colour) 1 ≡ true → eqb (count (segment_own s colour) 1) n ≡ segment_holds colour n s
unfolding holds inside
segment-free colour n s e = rw e

pub segment-blocked : (colour n : ℕ) (s : Segment) → free (segment_other s colour) 1 ≡ false → false ≡ segment_holds colour n s
unfolding holds inside
segment-blocked colour n s e = rw e

-- the last cell of a window that scores is empty where its mask of stones is below 16
last-clear : (f : Stones) → ltb (stones_mask f 1) 16 ≡ not (f 5)
unfolding stones_mask mask_of
last-clear f =
    table5 (λ a b c d e. ltb (((((0 + digit e) * 2 + digit d) * 2 + digit c) * 2 + digit b) * 2 + digit a) 16) (λ a b c d e. not e) tt
    (f 1) (f 2) (f 3) (f 4) (f 5)

pub segment-open : (colour n : ℕ) (s : Segment) → segment_scores colour n s ≡ true
    → ltb (stones_mask (segment_own s colour) 1) 16 ≡ no_stone (segment_own s colour) (segment_other s colour) 5
unfolding no_stone
segment-open colour n s e =
    let none : segment_other s colour 5 ≡ false = scores-last (eqb colour 1) 7 (segment_own s colour) (segment_other s colour) n 1 (true-T e) in
    last-clear (segment_own s colour) ∙ sym (ap (λ (b : Bool). not (segment_own s colour 5) && not b) none ∙ and-true (not (segment_own s colour 5)))

-- ---- a score is a small signed number, which a byte holds
pub small_signed : (own : Stones) (j n : ℕ) → n ≡ count own j → SFits w8 (pos n)
small_signed own j n e = record { sfits = omega (arith, count-le own j) }

pub signed : (own : Stones) (j n : ℕ) → n ≡ count own j → to_z w8 n ≡ pos (count own j)
signed own j n e = rw (lt-ltb n 128 (omega (arith, count-le own j))) (ap pos e)

score-fits : (black : Bool) (own other : Stones) (j : ℕ) → SFits w8 (score black own other j)
unfolding score
score-fits black own other j = go (dead black own other j)
  where
    go : (d : Bool) → SFits w8 (cond d (negsuc 0) (pos (count own j)))
    go true = sfits_lit tt
    go false = small_signed own j (count own j) refl

-- it comes back from the bits that carry it
pub carried : (black : Bool) (own other : Stones) (j : ℕ) → to_z w8 (of_z w8 (score black own other j)) ≡ score black own other j
carried black own other j = to_z-of_z (score-fits black own other j)
