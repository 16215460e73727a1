-- The word of an answer: the number of the refusal in the high half, or the value.
use Rattle.std.specs.Prelude.{ℕ, ◌*◌, Result, Ok, Err, Option, Some, None}
use Rattle.rules.specs.Numbers.{colour_no}
use Rattle.rules.specs.Answers.{refusal_no}
use Rattle.rules.specs.declared.Player.{Player}
use Rattle.rules.specs.declared.refusal.Refusal.{Refusal}

-- of a value that `number` gives as a number
unfoldable pub word : {A : Type 0} → (A → ℕ) → Result A Refusal → ℕ
word number (Ok value) = number value
word number (Err refusal) = refusal_no refusal * 65536

-- the colour of the stone, 0 where the cell is empty
unfoldable pub stone_no : Option Player → ℕ
stone_no None = 0
stone_no (Some player) = colour_no player
