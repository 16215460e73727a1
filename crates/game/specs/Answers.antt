-- The answer: the report, or the refusal.
use Rattle.std.specs.Prelude.{ℕ, Option, Some, None, Result}
use Rattle.rules.specs.Answers.{answer}
use Rattle.rules.specs.declared.Player.{Player}
use Rattle.rules.specs.declared.refusal.Refusal.{Refusal}
use Rattle.board.specs.Boards.{board_of}
use Rattle.board.specs.declared.board.Board.{Board}
use Rattle.game.specs.Game.{Report}
use Rattle.game.specs.declared.report.Reason.{Reason}
use Rattle.game.specs.declared.report.Fault.{Fault}
use Rattle.game.specs.declared.report.GameReport.{GameReport}

-- the fault at a number, where there is a reason
abbrev pub fault_of : ℕ → Option Reason → Option Fault
fault_of n None = None
fault_of n (Some why) = Some (record { number = n; reason = why })

-- the fault's number, or 0, and its reason
abbrev pub fault_no : Option Fault → ℕ
fault_no None = 0
fault_no (Some fault) = fault.number

abbrev pub fault_reason : Option Fault → Option Reason
fault_reason None = None
fault_reason (Some fault) = Some fault.reason

abbrev pub report_with : Option Fault → Option Player → Board → GameReport
report_with fault won b = record { fault = fault; winner = won; board = b }

-- the report with the board of its cells
unfoldable pub reported : Report → GameReport
reported report = report_with (fault_of report.number report.reason) report.winner (board_of report.cells)

unfoldable pub game_report : ℕ → Report → Result GameReport Refusal
game_report refused report = answer refused (reported report)
