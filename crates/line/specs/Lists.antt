-- The lists that go into lent buffers: numbers of set bits, and windows with their segments.
use Rattle.std.specs.Prelude.{Bool, List, [], ◌∷◌, ℕ}
use Rattle.rules.specs.Tools.{gather, only}
use Rattle.rules.specs.Line.{Stones, segment_mask}

-- the number of bit j, if it is set
abbrev pub bit_item : (ℕ → Bool) → ℕ → List ℕ
bit_item on j = only (on j) (j ∷ [])

-- the numbers of the set bits below 16, ascending
unfoldable pub bit_list : (ℕ → Bool) → List ℕ
bit_list on = gather 16 (bit_item on)

-- a window's start and the two masks of its segment, if it is one of the starts
abbrev pub window_item : Stones → Stones → (ℕ → Bool) → ℕ → List ℕ
window_item blacks whites starts j = only (starts j) (j ∷ segment_mask blacks j ∷ segment_mask whites j ∷ [])

-- the starts with their segments, three bytes each, ascending by start
unfoldable pub window_list : Stones → Stones → (ℕ → Bool) → List ℕ
window_list blacks whites starts = gather 16 (window_item blacks whites starts)
