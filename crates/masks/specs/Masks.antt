-- Masks as the code adds and changes them.
use Rattle.std.specs.Prelude.{◌≡◌, Bool, cond, ◌&&◌, ℕ, ◌+◌, eqb}
use Rattle.std.specs.Bool.{beq}
use Rattle.rules.specs.Bit.{bit, digit, mask_of}
use Rattle.rules.specs.Line.{Stones, count}

-- the binary digit of the window's count that stands for 2 ^ k
abbrev pub digit_at : Stones → ℕ → ℕ → Bool
digit_at own k j = bit (count own j) k

-- how many of five masks have bit j
unfoldable pub sum_at : ℕ → ℕ → ℕ → ℕ → ℕ → ℕ → ℕ
sum_at a b c d e j = digit (bit a j) + digit (bit b j) + digit (bit c j) + digit (bit d j) + digit (bit e j)

-- three masks of w bits are the digits 1, 2 and 4 of the counts at all bits
pub record Tallied (w : ℕ) (counts : ℕ → ℕ) (ones twos fours : ℕ) : Type 0 where
  pub first : ones ≡ mask_of w (λ j. bit (counts j) 0)
  pub second : twos ≡ mask_of w (λ j. bit (counts j) 1)
  pub third : fours ≡ mask_of w (λ j. bit (counts j) 2)

-- at j the three masks have the three low digits of n
abbrev pub spelled : ℕ → ℕ → ℕ → ℕ → ℕ → Bool
spelled ones twos fours n j = beq (bit n 0) (bit ones j) && beq (bit n 1) (bit twos j) && beq (bit n 2) (bit fours j)

-- the cells with cell i as `on` says
abbrev pub placed : Stones → ℕ → Bool → Stones
placed own i on j = cond (eqb j i) on (own j)
