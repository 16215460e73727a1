-- Segments as values: what section 4 says of a window, asked of a segment's seven cells, whose window is at cell 1.
use Rattle.std.specs.Prelude.{Bool, cond, ℕ, eqb}
use Rattle.rules.specs.Refusals.{unsound, unless, first, colour_refusal}
use Rattle.rules.specs.Bit.{bit}
use Rattle.rules.specs.Line.{Stones, dead, sound_segment, segment_at}
use Rattle.segment.specs.declared.segment.Segment.{Segment}

-- the stones of a colour out of both: Black's for 1, else White's
abbrev pub mine : ℕ → ℕ → ℕ → ℕ
mine colour blacks whites = cond (eqb colour 1) blacks whites

-- which of the seven cells hold a stone of the colour, and of the other
abbrev pub segment_own : Segment → ℕ → Stones
segment_own s colour = bit (mine colour s.blacks s.whites)

abbrev pub segment_other : Segment → ℕ → Stones
segment_other s colour = bit (mine colour s.whites s.blacks)

abbrev pub is_dead : Segment → ℕ → Bool
is_dead s colour = dead (eqb colour 1) (segment_own s colour) (segment_other s colour) segment_at

-- "9 .. unsound .. segment"
unfoldable pub segment_refusal : Segment → ℕ
segment_refusal s = unless (sound_segment (bit s.blacks) (bit s.whites)) unsound

-- the refusal of a question about a colour
unfoldable pub segment_refusal_for : Segment → ℕ → ℕ
segment_refusal_for s colour = first (segment_refusal s) (colour_refusal colour)
