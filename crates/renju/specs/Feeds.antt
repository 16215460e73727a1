-- A message of the move feed, handed in as numbers.
use Rattle.std.specs.Prelude.{ℕ}
use Rattle.feed.specs.declared.message.Message.{Message}

abbrev pub message_by : ℕ → ℕ → ℕ → Message
message_by game number code = record { game = game; number = number; code = code }
