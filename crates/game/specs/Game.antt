-- Whole games refereed (document 02, No. 3). A game is a list of point codes; its report is this reading, move by move, on the 225 cells of
-- the board, by document 01's rules. The quoted sentences are document 02's.
use Rattle.std.specs.Prelude.{Bool, not, ◌&&◌, cond, List, [], ◌∷◌, ℕ, suc, get_or, Option, Some, None}
use Rattle.std.specs.Option.{is_some}
use Rattle.rules.specs.Numbers.{colour_no, is_black, is_none, opponent_of}
use Rattle.rules.specs.Grid.{is_empty, put}
use Rattle.rules.specs.Forbidden.{strict_of}
use Rattle.rules.specs.Fives.{makes_five}
use Rattle.rules.specs.declared.Player.{Player}
use Rattle.rules.specs.declared.Player.TheVariants.{Black}
use Rattle.lent.specs.Lists.{zeros}
use Rattle.game.specs.declared.report.Reason.{Reason}
use Rattle.game.specs.declared.report.Reason.TheVariants as reason

-- ---- why a move is faulty, and who has won, with their numbers

-- "reason 1, 2 or 3", 0 for none
abbrev pub reason_no : Option Reason → ℕ
reason_no None = 0
reason_no (Some reason.Occupied) = 1
reason_no (Some reason.Forbidden) = 2
reason_no (Some reason.AfterFive) = 3

abbrev pub is_fault : Option Reason → Bool
is_fault why = is_some why

-- 0 nobody, else the colour's number
abbrev pub winner_no : Option Player → ℕ
winner_no None = 0
winner_no (Some r) = colour_no r

-- ---- one move, on the board before it; `won` says who has made a five so far

-- "on an occupied point"
abbrev pub is_occupied : List ℕ → ℕ → Bool
is_occupied cells p = not (is_empty (get_or cells p 0))

-- "forbidden to Black": the strict verdict there is a kind. White may play anywhere.
unfoldable pub is_forbidden : Player → List ℕ → ℕ → Bool
is_forbidden r cells p = is_black r && not (is_none (strict_of cells p))

-- "reason 1, 2 or 3. If several apply to one move, the lowest reason counts."
abbrev pub lowest : Bool → Bool → Bool → Option Reason
lowest occupied forbidden after =
    cond occupied (Some reason.Occupied) (cond forbidden (Some reason.Forbidden) (cond after (Some reason.AfterFive) None))

-- "on an occupied point, forbidden to Black, or played after a five", of either side's
unfoldable pub reason_of : Player → Option Player → List ℕ → ℕ → Option Reason
reason_of r won cells p = lowest (is_occupied cells p) (is_forbidden r cells p) (is_some won)

-- who has won after a move without a fault (nobody had won before it, else the move would be faulty): its player, where the stone made a
-- five. "Black's five is exactly five, White's five or more."
unfoldable pub won_after : Bool → Player → Option Player
won_after five r = cond five (Some r) None

-- ---- the reading

-- the first faulty move's number, from 1, or 0; its reason; the winner; the board
pub record Report : Type 0 where
  pub number : ℕ
  pub reason : Option Reason
  pub winner : Option Player
  pub cells : List ℕ

-- "A game without such a move reports 0, its winner if any, and its final board"
abbrev pub no_fault : Option Player → List ℕ → Report
no_fault won cells = record { number = 0; reason = None; winner = won; cells = cells }

-- "a game with one names no winner"; "play stops at the fault, and the board handed back is the one before it"
abbrev pub fault_at : ℕ → Option Reason → List ℕ → Report
fault_at n why cells = record { number = n; reason = why; winner = None; cells = cells }

-- the moves from number n on: the first of them is the player's, on these cells, and the next the opponent's, on the board with the stone
unfoldable pub report_from : ℕ → Player → Option Player → List ℕ → List ℕ → Report
report_from n r won cells [] = no_fault won cells
report_from n r won cells (p ∷ moves) =
    cond (is_fault (reason_of r won cells p)) (fault_at n (reason_of r won cells p) cells)
    (report_from (suc n) (opponent_of r) (won_after (makes_five r cells p) r) (put r cells p) moves)

-- the whole game: move 1 is Black's, on the empty board, so Black plays moves 1, 3, 5 ..
unfoldable pub report_of : List ℕ → Report
report_of moves = report_from 1 Black None (zeros 225) moves
