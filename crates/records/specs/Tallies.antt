-- What a replay counts.
use Rattle.std.specs.Prelude.{Bool, cond, List, ℕ, ◌+◌, ◌*◌, ◌/◌, ◌%◌, min, eqb, ltb, get_or, set}
use Rattle.records.specs.Records.{place_from}

-- the answers of a record in one number: those compared in its low half, those that differ in its high half
unfoldable pub after_answer : ℕ → Bool → ℕ
after_answer t agrees = cond (ltb 4294836224 t) t (t + cond agrees 1 65537)

-- a count does not wrap: it stays at the largest number
abbrev pub total : ℕ → ℕ → ℕ
total a b = min (a + b) 18446744073709551615

-- there are 64 counts
unfoldable pub added : List ℕ → ℕ → ℕ → List ℕ
added counts at n = cond (ltb at 64) (set counts at (total (get_or counts at 0) n)) counts

-- where the four counts of a letter stand; what is no letter of a record has the four behind the last letter's
abbrev pub count_row : List ℕ → ℕ → ℕ
count_row letters letter = 4 * min (place_from letters 0 letter) 15

-- records, answers, answers that differ, records with such a one
unfoldable pub record_counted : List ℕ → ℕ → ℕ → List ℕ
record_counted counts row t =
    added (added (added (added counts row 1) (row + 1) (t % 65536)) (row + 2) (t / 65536)) (row + 3) (min (t / 65536) 1)

-- a comment, byte 35, is no record
unfoldable pub after_record : List ℕ → List ℕ → ℕ → ℕ → List ℕ
after_record counts letters letter t = cond (eqb letter 35) counts (record_counted counts (count_row letters letter) t)
