-- The answers of the host interface: one number for an answer or a refusal; and the refusals about cell bytes.
use Rattle.std.specs.Prelude.{cond, List, ℕ, ◌*◌, ◌/◌, eqb, length, Result, Ok, Err}
use Rattle.rules.specs.Refusals.{first}
use Rattle.rules.specs.Answers.{refusal_no}
use Rattle.rules.specs.declared.refusal.Refusal.{Refusal}
use Rattle.lent.specs.Lists.{list_refusal}
use Rattle.cells.specs.Cells.{cells_refusal}
use Rattle.board.specs.Boards.{board_of}
use Rattle.board.specs.declared.board.Board.{Board}
use Rattle.line.specs.declared.line.Line.{Line}

-- ---- one number

-- "high half the refusal number of document 01 (0: none), low half the answer"
unfoldable pub word : ℕ → ℕ → ℕ
word refused n = cond (eqb refused 0) n (refused * 65536)

-- of a list into a lent buffer: how many items of `size` bytes it has
unfoldable pub list_word : ℕ → ℕ → List ℕ → List ℕ → ℕ
list_word size refused out a = word (list_refusal refused out a) (length a / size)

-- of an answer of the crates below, whose value `low` gives as a number
unfoldable pub word_of : {A : Type 0} → (A → ℕ) → Result A Refusal → ℕ
word_of low (Ok value) = low value
word_of low (Err refusal) = refusal_no refusal * 65536

-- ---- refusals of a question asked of cell bytes

-- 9 for bytes that are no board's; else what the question refuses when it is asked of their board
unfoldable pub refusal_of : List ℕ → (Board → ℕ) → ℕ
refusal_of cells question = first (cells_refusal cells) (question (board_of cells))

-- ---- a line alone, by its masks

abbrev pub line_by : ℕ → ℕ → ℕ → Line
line_by blacks whites size = record { blacks = blacks; whites = whites; size = size }
