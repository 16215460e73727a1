-- One run, so that the laws of Runs.antt are seen to speak of something. Two moves are sent; the second arrives first and is refused; the first
-- arrives, and once more; a copy of the second arrives, and the old answers are heard after the new one. Then a takeback, and a message of
-- the old game at the new client. Assumes nothing.
use mathlib.Core.Path.{◌≡◌, refl}
use mathlib.Core.Bool.{true, false}
use mathlib.Core.List.{List, [], ◌∷◌}
use Rattle.rules.specs.Refusals.{first, unless, code_refusal}
use Rattle.rules.specs.Answers.{answer}
use Rattle.lent.specs.Lists.{zeros}
use Rattle.feed.specs.Feed.{list_of, size_of, no_moves, grown, shrunk, add_refusal, new_client, answer_of, take_refusal, after, takes}
use Rattle.feed.specs.Feed.{new_server, adds_to, back_refusal, takes_back, has_move, message_answer, hears, holds_all}
use Rattle.feed.specs.Runs.{State, begun, Event, adds_move, takes_move_back, sends_move, repeats_message, message_arrives, hears_answer}
use Rattle.feed.specs.Runs.{without, twice, served, delivered, heard_by, next, run, held_in}

-- on its way after these eight: message 2 (a copy), message 1 (a copy), and the answers that tell 1 and 0
early : List Event
early = adds_move 112 ∷ adds_move 96 ∷ sends_move 1 ∷ sends_move 2 ∷ repeats_message 0 ∷ repeats_message 2 ∷ message_arrives 0 7 ∷ message_arrives 1 7 ∷ []

events : List Event
events = message_arrives 1 7 ∷ message_arrives 0 7 ∷ hears_answer 0 ∷ hears_answer 0 ∷ hears_answer 0 ∷ hears_answer 0 ∷ []

abbrev part-way : State
part-way = run (begun 7) early

abbrev at-end : State
at-end = run part-way events

one-held : (held_in part-way 7 ≡ 112 ∷ []) × (holds_all part-way.server ≡ false)
unfolding run next served delivered heard_by without twice begun new_server new_client no_moves zeros list_of size_of grown add_refusal code_refusal
    first unless answer adds_to has_move message_answer take_refusal after takes answer_of hears holds_all early
one-held = (refl, refl)

all_held : (held_in at-end 7 ≡ 112 ∷ 96 ∷ []) × (holds_all at-end.server ≡ true)
unfolding run next served delivered heard_by without twice begun new_server new_client no_moves zeros list_of size_of grown add_refusal code_refusal
    first unless answer adds_to has_move message_answer take_refusal after takes answer_of hears holds_all early events
all_held = (refl, refl)

after-takeback : ((run at-end (sends_move 1 ∷ takes_move_back ∷ message_arrives 0 8 ∷ [])).server.game ≡ 8)
    × (held_in (run at-end (sends_move 1 ∷ takes_move_back ∷ message_arrives 0 8 ∷ [])) 8 ≡ [])
    × (holds_all (run at-end (sends_move 1 ∷ takes_move_back ∷ message_arrives 0 8 ∷ [])).server ≡ false)
unfolding run next served delivered heard_by without twice begun new_server new_client no_moves zeros list_of size_of grown shrunk add_refusal code_refusal
    first unless answer adds_to back_refusal takes_back has_move message_answer take_refusal after takes answer_of hears holds_all early events
after-takeback = (refl, refl, refl)
