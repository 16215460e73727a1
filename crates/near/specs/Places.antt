-- The 64 places of the four lines through a point p: place 16d + j is cell j of the line in direction d. No statement outside this crate
-- speaks of places.
use Rattle.std.specs.Prelude.{Bool, List, ℕ, ◌+◌, ◌*◌, ◌/◌, ◌%◌, eqb, leb, get_or}
use Rattle.std.specs.Int.Bits.{bit_and}
use Rattle.rules.specs.Tools.{any_below, tab}
use Rattle.rules.specs.Bit.{bit, mask_of}
use Rattle.rules.specs.Point.{line_no, cell_no, line_size}

-- place k of four masks
unfoldable pub place_in : List ℕ → ℕ → Bool
place_in masks k = bit (get_or masks (k / 16) 0) (k % 16)

-- place k lies past the end of its line
unfoldable pub past_end : ℕ → ℕ → Bool
past_end p k = leb (line_size (k / 16) (line_no (k / 16) p)) (k % 16)

-- place k is p itself
unfoldable pub spot_at : ℕ → ℕ → Bool
spot_at p k = eqb (k % 16) (cell_no (k / 16) p)

-- four masks of the places of m from which n places on hold p
unfoldable pub reaching : ℕ → ℕ → ℕ → List ℕ
reaching n p m =
    tab 4 (λ d. mask_of 16 (λ j. bit (bit_and m (mask_of 64 (λ k. any_below n (λ i. bit (mask_of 64 (spot_at p)) (k + i))))) (16 * d + j)))
