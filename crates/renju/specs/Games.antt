-- The bytes that a game's report is handed out as.
use Rattle.std.specs.Prelude.{List, ◌∷◌, ℕ, zero, suc, take, Option}
use Rattle.rules.specs.declared.Player.{Player}
use Rattle.game.specs.Game.{reason_no, winner_no, report_of}
use Rattle.game.specs.declared.report.Reason.{Reason}

-- "228 bytes: that number, the reason 0 to 3, the winner 0 to 2, the 225 cells"
abbrev pub report_bytes : ℕ → Option Reason → Option Player → List ℕ → List ℕ
report_bytes n why won cells = n ∷ reason_no why ∷ winner_no won ∷ cells

-- of the moves
unfoldable pub game_bytes : List ℕ → List ℕ
game_bytes moves =
    report_bytes (report_of moves).number (report_of moves).reason (report_of moves).winner (report_of moves).cells

-- the moves whose stones are on the board of a report with this number: those before the fault, or all (proofs/Handed.antt, report-cells)
abbrev pub standing : ℕ → List ℕ → List ℕ
standing zero moves = moves
standing (suc n) moves = take n moves
