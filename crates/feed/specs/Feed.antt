-- The client and the server of the move feed, each function by what it gives. The quoted sentences are document 02's, No. 8.
use Rattle.std.specs.Prelude.{Bool, ◌&&◌, cond, List, ℕ, ◌+◌, ◌-◌, max, eqb, leb, ltb, length, get_or, take, set, Result}
use Rattle.rules.specs.Refusals.{no_room, many_moves, foreign_game, not_next, first, unless, code_refusal}
use Rattle.rules.specs.Answers.{answer, checked}
use Rattle.rules.specs.declared.refusal.Refusal.{Refusal}
use Rattle.lent.specs.Lists.{zeros}
use Rattle.feed.specs.declared.message.Message.{Message}
use Rattle.feed.specs.declared.message.Answer.{Answer}
use Rattle.feed.specs.declared.moves.Moves.{Moves}
use Rattle.feed.specs.declared.client.Client.{Client}
use Rattle.feed.specs.declared.client.Taken.{Taken}
use Rattle.feed.specs.declared.server.Server.{Server}

-- ---- lists of moves

-- the list: the codes up to the count. There are 225 codes, so a count over 225 is read as 225
unfoldable pub list_of : Moves → List ℕ
list_of l = take l.count l.codes

unfoldable pub size_of : Moves → ℕ
size_of l = length (list_of l)

unfoldable pub no_moves : Moves
no_moves = record { codes = zeros 225; count = 0 }

-- one move more, where there is room for it; the last move fewer (of an empty list: none)
unfoldable pub grown : Moves → ℕ → Moves
grown l code = cond (ltb (size_of l) 225) (record { codes = set l.codes (size_of l) code; count = size_of l + 1 }) l

unfoldable pub shrunk : Moves → Moves
shrunk l = record { codes = l.codes; count = size_of l - 1 }

-- ---- what is refused

-- of a code behind some moves: "then 8, then 14 for a 226th move"
unfoldable pub add_refusal : ℕ → ℕ → ℕ
add_refusal count code = first (code_refusal code) (unless (ltb count 225) many_moves)

-- of a message, at a client of a game that holds some moves: "17 for a foreign game, then 18 for a number that is not next, then 8, then 14
-- for a 226th move"
unfoldable pub take_refusal : ℕ → ℕ → Message → ℕ
take_refusal game count m =
    first (unless (eqb m.game game) foreign_game)
    (first (unless (eqb m.number (count + 1)) not_next) (add_refusal count m.code))

-- ---- the client

-- "a client started once, empty, for it"
unfoldable pub new_client : ℕ → Client
new_client game = record { game = game; moves = no_moves }

-- It "answers, also when only asked, with its game number and how many it holds"
unfoldable pub answer_of : Client → Answer
answer_of c = record { game = c.game; count = size_of c.moves }

-- the client with one move more
abbrev pub grown_client : Client → ℕ → Client
grown_client c code = record { game = c.game; moves = grown c.moves code }

abbrev pub refusal_by : Client → Message → ℕ
refusal_by c m = take_refusal c.game (size_of c.moves) m

-- "The client takes only the next move of its own game"; of the refusals "none changes the client"
unfoldable pub after : Client → Message → Client
after c m = cond (eqb (refusal_by c m) 0) (grown_client c m.code) c

unfoldable pub takes : Client → Message → Taken
takes c m = record { taken = checked (refusal_by c m); client = after c m; answer = answer_of (after c m) }

-- the same of a client that holds the first `count` bytes of a lent list, which has room for `room` bytes: 13 where there is none behind them
unfoldable pub held_refusal : ℕ → ℕ → ℕ → Message → ℕ
held_refusal game room count m = first (take_refusal game count m) (unless (ltb count room) no_room)

-- .. and the list after it: the code behind what is held
unfoldable pub held_after : ℕ → List ℕ → ℕ → Message → List ℕ
held_after game held count m = cond (eqb (held_refusal game (length held) count m) 0) (set held count m.code) held

-- ---- the server

unfoldable pub new_server : ℕ → Server
new_server game = record { game = game; moves = no_moves; heard = 0 }

-- the server with a move added, or 8 or 14
unfoldable pub adds_to : Server → ℕ → Result Server Refusal
adds_to v code =
    answer (add_refusal (size_of v.moves) code) (record { game = v.game; moves = grown v.moves code; heard = v.heard })

-- "A takeback opens a new game number, never used before": one more than the present one, of which nothing is heard yet. Behind the last number
-- there is none, and it is refused
abbrev pub last_game : ℕ
last_game = 4294967295

unfoldable pub back_refusal : Server → ℕ
back_refusal v = cond (eqb v.game last_game) foreign_game 0

unfoldable pub takes_back : Server → Result Server Refusal
takes_back v = answer (back_refusal v) (record { game = v.game + 1; moves = shrunk v.moves; heard = 0 })

-- "Each carries a game number, a move number from 1 and a code."
abbrev pub message_of : Server → ℕ → Message
message_of v n = record { game = v.game; number = n; code = get_or (list_of v.moves) (n - 1) 0 }

-- whether the server's game has a move n
unfoldable pub has_move : Server → ℕ → Bool
has_move v n = leb 1 n && leb n (size_of v.moves)

unfoldable pub message_answer : Server → ℕ → Result Message Refusal
message_answer v n = answer (unless (has_move v n) not_next) (message_of v n)

-- an answer is heard for the server's own game number only, and what was heard never shrinks there. One that tells more moves than the game has is
-- no client's of this game
unfoldable pub hears : Server → Answer → Server
hears v a =
    cond (eqb a.game v.game && leb a.count (size_of v.moves))
    (record { game = v.game; moves = v.moves; heard = max v.heard a.count }) v

-- "the server has heard its full count under that number"
unfoldable pub holds_all : Server → Bool
holds_all v = eqb v.heard (size_of v.moves)
