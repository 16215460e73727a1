-- Rows as values: a row of a line with its stones and eyes, and a row told by one or two segments alone.
use Rattle.std.specs.Prelude.{Bool, false, not, ◌&&◌, ℕ, ◌+◌, eqb, ltb, Option, Some, None}
use Rattle.rules.specs.Numbers.{kind_of}
use Rattle.rules.specs.Refusals.{first, colour_refusal, kind_refusal}
use Rattle.rules.specs.Bit.{mask_of}
use Rattle.rules.specs.Line.{Stones, scores, holds, no_stone, row_by, eye_span, stones_mask, segment_size, segment_at}
use Rattle.rules.specs.declared.RowKind.{RowKind}
use Rattle.segment.specs.declared.segment.Segment.{Segment}
use Rattle.segment.specs.declared.row.Row.{Row}
use Rattle.segment.specs.Segments.{segment_own, segment_other, segment_refusal}

-- the cells of the window at j without an own stone, of those that the kind's eyes can be on. Where the row stands they are section 4's
-- eyes (proofs/Rows.antt, row-unfilled); elsewhere they are what `Row::new` of row.rs gives.
unfoldable pub unfilled : Stones → RowKind → ℕ → ℕ
unfilled own k j = mask_of 5 (λ i. ltb i (eye_span k) && not (own (j + i)))

-- the row of a colour and a kind at a segment
abbrev pub row_of : ℕ → ℕ → ℕ → Segment → Row
row_of start colour kind s =
    record { start = start; stones = stones_mask (segment_own s colour) segment_at; eyes = unfilled (segment_own s colour) (kind_of kind) segment_at }

unfoldable pub row_refusal : ℕ → ℕ → Segment → ℕ
row_refusal colour kind s = first (segment_refusal s) (first (colour_refusal colour) (kind_refusal kind))

-- ---- a row told by its window's segment and the one before it, if there is one

-- a segment's window scores n; it is free and holds n
abbrev pub segment_scores : ℕ → ℕ → Segment → Bool
segment_scores colour n s = scores (eqb colour 1) segment_size (segment_own s colour) (segment_other s colour) n segment_at

abbrev pub segment_holds : ℕ → ℕ → Segment → Bool
segment_holds colour n s = holds segment_size (segment_own s colour) (segment_other s colour) n segment_at

-- there is a segment before, and it passes
abbrev pub passes_before : (Segment → Bool) → Option Segment → Bool
passes_before w (Some s) = w s
passes_before w None = false

-- "windows j−1 and j both score [n] and cell j+4 is empty"
unfoldable pub open_of : ℕ → ℕ → Option Segment → Segment → Bool
open_of colour n prev s =
    passes_before (segment_scores colour n) prev && segment_scores colour n s && no_stone (segment_own s colour) (segment_other s colour) (segment_at + 4)

-- "windows j−1 and j are both free and both hold [n]"
unfoldable pub over_of : ℕ → ℕ → Option Segment → Segment → Bool
over_of colour n prev s = passes_before (segment_holds colour n) prev && segment_holds colour n s

-- section 4's row of the kind, asked of the two segments
unfoldable pub match_of : ℕ → RowKind → Option Segment → Segment → Bool
match_of colour kind prev s =
    row_by (λ n. open_of colour n prev s) (λ n. segment_scores colour n s) (λ n. over_of colour n prev s) kind

-- both segments are to be sound
abbrev pub before_refusal : Option Segment → ℕ
before_refusal (Some s) = segment_refusal s
before_refusal None = 0

unfoldable pub match_refusal : ℕ → ℕ → Option Segment → Segment → ℕ
match_refusal colour kind prev s = first (before_refusal prev) (row_refusal colour kind s)
