-- A comma list mended (document 02, No. 12, which is quoted): the leading moves that are kept, the item that slips, and the two lines that
-- are written.
use Rattle.std.specs.Prelude.{not, cond, List, [], ◌∷◌, ◌++◌, ℕ, ◌+◌, eqb, length, Option, Some, None}
use Rattle.rules.specs.Refusals.{unless, first}
use Rattle.rules.specs.Answers.{refusal_no, refusal_named}
use Rattle.text.specs.Bytes.{newline, blank, comma, trim, has, parts}
use Rattle.text.specs.Points.{item_refusal, item_code}
use Rattle.display.specs.Texts.{number_text, points_text}
use Rattle.rules.specs.declared.refusal.Refusal.{Refusal}
use Rattle.mending.specs.declared.kept.Mended.{Mended}
use Rattle.mending.specs.declared.kept.Slip.{Slip}
use Rattle.mending.specs.declared.kept.Reason.{Reason}
use Rattle.mending.specs.declared.kept.Reason.TheVariants as reason

-- ---- item by item

-- "reason: 3 or 4 from the point reader, 1 for a repeat"
abbrev pub repeated : ℕ
repeated = 1

-- why an item slips behind the moves that are kept: it "does not read as a point or names a point already kept"; 0 where it is kept too
unfoldable pub slip_of : List ℕ → List ℕ → ℕ
slip_of kept item = first (item_refusal item) (unless (not (has (item_code item) kept)) repeated)

-- "keeps the leading moves up to the first item that" slips: the items one by one, behind the moves that are kept already
unfoldable pub kept_from : List ℕ → List (List ℕ) → List ℕ
kept_from kept [] = kept
kept_from kept (item ∷ items) = cond (eqb (slip_of kept item) 0) (kept_from (kept ++ (item_code item ∷ [])) items) kept

-- why that item slips; 0 where none does
unfoldable pub reason_from : List ℕ → List (List ℕ) → ℕ
reason_from kept [] = 0
reason_from kept (item ∷ items) = cond (eqb (slip_of kept item) 0) (reason_from (kept ++ (item_code item ∷ [])) items) (slip_of kept item)

-- "that item's number from 1": behind the moves that are kept; 0 where none slips
unfoldable pub number_of_slip : List ℕ → ℕ → ℕ
number_of_slip kept reason = cond (eqb reason 0) 0 (length kept + 1)

-- ---- of a text: the whole of it is the list, trimmed, its items between commas; an empty text is one empty item

unfoldable pub kept_of : List ℕ → List ℕ
kept_of s = kept_from [] (parts comma (trim s))

unfoldable pub reason_of : List ℕ → ℕ
reason_of s = reason_from [] (parts comma (trim s))

-- ---- the two lines: "It writes the kept list, then that item's number from 1 and reason"; "with no slip the second is `0 0`"

unfoldable pub slip_line : ℕ → ℕ → List ℕ
slip_line item reason = number_text item ++ (blank ∷ []) ++ number_text reason ++ (newline ∷ [])

unfoldable pub two_lines : List ℕ → ℕ → ℕ → List ℕ
two_lines kept item reason = points_text kept ++ (newline ∷ []) ++ slip_line item reason

unfoldable pub mended_text : List ℕ → List ℕ
mended_text s = two_lines (kept_of s) (number_of_slip (kept_of s) (reason_of s)) (reason_of s)

-- ---- what is given back by value

-- the number of a reason, and the reason of a number; none for 0
abbrev pub reason_no : Reason → ℕ
reason_no reason.Repeated = repeated
reason_no (reason.Unread refusal) = refusal_no refusal

unfoldable pub reason_named : ℕ → Option Reason
reason_named n = cond (eqb n 0) None (Some (cond (eqb n repeated) reason.Repeated (reason.Unread (refusal_named n))))

-- the item behind the moves that are kept, where it slips for this reason
abbrev pub slip_behind : List ℕ → Option Reason → Option Slip
slip_behind kept None = None
slip_behind kept (Some why) = Some (record { item = length kept + 1; reason = why })

abbrev pub mended_with : List ℕ → Option Reason → Mended
mended_with kept why = record { moves = kept; slip = slip_behind kept why }

-- "Refusals: 1, then 2": of a text that is not refused as any text is
unfoldable pub mended_found : List ℕ → Mended
mended_found s = mended_with (kept_of s) (reason_named (reason_of s))

-- the numbers of the second line
abbrev pub slip_item : Option Slip → ℕ
slip_item None = 0
slip_item (Some slip) = slip.item

abbrev pub slip_reason : Option Slip → ℕ
slip_reason None = 0
slip_reason (Some slip) = reason_no slip.reason

-- ---- what the code does: of the codes that were read, those before the first that stands among those before it

unfoldable pub once_from : List ℕ → List ℕ → List ℕ
once_from kept [] = kept
once_from kept (c ∷ codes) = cond (has c kept) kept (once_from (kept ++ (c ∷ [])) codes)

unfoldable pub once_of : List ℕ → List ℕ
once_of codes = once_from [] codes

-- .. and what the reader refuses is the reason
abbrev pub unread : Option Refusal → Option Reason
unread None = None
unread (Some refusal) = Some (reason.Unread refusal)
