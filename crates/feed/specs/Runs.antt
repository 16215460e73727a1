-- A run of the feed: the server of one table, the clients of its games, and the line between them. Each step is one of the crate's functions,
-- by the definition that its contract cites. The quoted sentences are document 02's, No. 8.
use Rattle.std.specs.Prelude.{◌≡◌, ◌⊎◌, Bool, true, false, cond, List, [], ◌∷◌, ℕ, zero, suc, ◌-◌, T, eqb, length, take, drop, Result, Ok, Err}
use Rattle.rules.specs.declared.refusal.Refusal.{Refusal}
use Rattle.rules.specs.Forbidden.{strict_of, plain_of, forbidden_list}
use Rattle.cells.specs.Cells.{moves_cells}
use Rattle.feed.specs.declared.message.Message.{Message}
use Rattle.feed.specs.declared.message.Answer.{Answer}
use Rattle.feed.specs.declared.client.Client.{Client}
use Rattle.feed.specs.declared.server.Server.{Server}
use Rattle.feed.specs.Feed.{list_of, size_of, new_client, answer_of, takes, new_server, adds_to, takes_back, message_of, message_answer, hears}

-- ---- a moment of a run

pub record State : Type 0 where
  pub server : Server
  -- by game number: the server's list of that game, as it is, or as it was when the game was left
  pub lists : ℕ → List ℕ
  -- by game number: the "client started once, empty, for it". Taking is all that changes it: one that is started again under a number that it
  -- had is no client of these runs
  pub clients : ℕ → Client
  -- what is on its way: messages to the clients, answers to the server
  pub messages : List Message
  pub answers : List Answer

-- the start: nothing is played, held or on its way
unfoldable pub begun : ℕ → State
begun game = record { server = new_server game; lists = λ g. []; clients = new_client; messages = []; answers = [] }

-- ---- what can happen: "Messages are lost, repeated or come in another order, but none is made up."

-- Of what is on its way anything may come next: k is its place there, from 0; where there is nothing at that place, nothing happens.
pub data Event : Type 0 where
  -- the server adds a move; takes its last one back; sends the message of move n
  adds_move : ℕ → Event
  takes_move_back : Event
  sends_move : ℕ → Event
  -- a message is lost; is there once more; arrives at the client of game g, which answers
  loses_message : ℕ → Event
  repeats_message : ℕ → Event
  message_arrives : ℕ → ℕ → Event
  -- the client of game g is only asked
  asks_client : ℕ → Event
  -- an answer is lost; is there once more; is heard by the server
  loses_answer : ℕ → Event
  repeats_answer : ℕ → Event
  hears_answer : ℕ → Event

-- what is on its way, without the k-th, and with the k-th twice
unfoldable pub without : {A : Type 0} → ℕ → List A → List A
without k [] = []
without zero (x ∷ l) = l
without (suc k) (x ∷ l) = x ∷ without k l

unfoldable pub twice : {A : Type 0} → ℕ → List A → List A
twice k [] = []
twice zero (x ∷ l) = x ∷ x ∷ l
twice (suc k) (x ∷ l) = x ∷ twice k l

-- a map with x at g
abbrev pub at : {A : Type 0} → ℕ → A → (ℕ → A) → ℕ → A
at g x f h = cond (eqb h g) x (f h)

-- the moment with other messages and answers on their way
abbrev pub with_line : State → List Message → List Answer → State
with_line s messages answers = record { server = s.server; lists = s.lists; clients = s.clients; messages = messages; answers = answers }

-- the server after one of its functions: its list of its game number is the one that it has now
unfoldable pub served : State → Server → State
served s v = record {
  server = v;
  lists = at v.game (list_of v.moves) s.lists;
  clients = s.clients;
  messages = s.messages;
  answers = s.answers;
}

-- one message more, if the server has it
abbrev pub with_sent : Result Message Refusal → List Message → List Message
with_sent (Ok m) ms = m ∷ ms
with_sent (Err n) ms = ms

-- the server that its caller goes on with: the new one, or, where it is refused, the one that it has
abbrev pub or_same : Server → Result Server Refusal → Server
or_same v (Ok w) = w
or_same v (Err n) = v

-- message m, the k-th on its way, arrives at the client of game g: it is taken or refused, and answered
unfoldable pub delivered : State → ℕ → ℕ → Message → State
delivered s k g m = record {
  server = s.server;
  lists = s.lists;
  clients = at g (takes (s.clients g) m).client s.clients;
  messages = without k s.messages;
  answers = (takes (s.clients g) m).answer ∷ s.answers;
}

-- answer a, the k-th on its way, is heard
unfoldable pub heard_by : State → ℕ → Answer → State
heard_by s k a = record {
  server = hears s.server a;
  lists = s.lists;
  clients = s.clients;
  messages = s.messages;
  answers = without k s.answers;
}

-- .. by what there is from place k on
abbrev pub arrives : State → ℕ → ℕ → List Message → State
arrives s k g [] = s
arrives s k g (m ∷ ms) = delivered s k g m

abbrev pub heard : State → ℕ → List Answer → State
heard s k [] = s
heard s k (a ∷ told) = heard_by s k a

-- the moment after an event
unfoldable pub next : State → Event → State
next s (adds_move code) = served s (or_same s.server (adds_to s.server code))
next s takes_move_back = served s (or_same s.server (takes_back s.server))
next s (sends_move n) = with_line s (with_sent (message_answer s.server n) s.messages) s.answers
next s (loses_message k) = with_line s (without k s.messages) s.answers
next s (repeats_message k) = with_line s (twice k s.messages) s.answers
next s (message_arrives k g) = arrives s k g (drop k s.messages)
next s (asks_client g) = with_line s s.messages (answer_of (s.clients g) ∷ s.answers)
next s (loses_answer k) = with_line s s.messages (without k s.answers)
next s (repeats_answer k) = with_line s s.messages (twice k s.answers)
next s (hears_answer k) = heard s k (drop k s.answers)

-- the moment after some events, one after the other: any events, in any order
unfoldable pub run : State → List Event → State
run s [] = s
run s (e ∷ es) = run (next s e) es

-- ---- what is said of runs

-- what the client of a game holds
abbrev pub held_in : State → ℕ → List ℕ
held_in s g = list_of (s.clients g).moves

-- "its list is the first part of the server's list"
abbrev pub FirstPart : List ℕ → List ℕ → Type 0
FirstPart part whole = part ≡ take (length part) whole

-- the client of the server's game and the server: "both boards and all verdicts are equal"
pub record Agree (held list : List ℕ) : Type 0 where
  pub lists : held ≡ list
  pub boards : moves_cells held ≡ moves_cells list
  pub strict : (p : ℕ) → strict_of (moves_cells held) p ≡ strict_of (moves_cells list) p
  pub plain : (p : ℕ) → plain_of (moves_cells held) p ≡ plain_of (moves_cells list) p
  pub forbidden : forbidden_list (moves_cells held) ≡ forbidden_list (moves_cells list)

abbrev pub AgreeAt : State → Type 0
AgreeAt s = Agree (held_in s s.server.game) (list_of s.server.moves)

-- "until it adds a move" or takes one back: events that leave the server's list as it is
abbrev pub quiet : Event → Bool
quiet (adds_move code) = false
quiet takes_move_back = false
quiet (sends_move n) = true
quiet (loses_message k) = true
quiet (repeats_message k) = true
quiet (message_arrives k g) = true
quiet (asks_client g) = true
quiet (loses_answer k) = true
quiet (repeats_answer k) = true
quiet (hears_answer k) = true

abbrev pub Quiet : List Event → Type 0
Quiet [] = Unit {0}
Quiet (e ∷ es) = T (quiet e) × Quiet es

-- the messages of the next n moves behind the first k, and those that the client of the server's game lacks
abbrev pub messages_from : Server → ℕ → ℕ → List Message
messages_from v k zero = []
messages_from v k (suc n) = message_of v (suc k) ∷ messages_from v (suc k) n

abbrev pub missing_at : State → List Message
missing_at s =
    let held = size_of (s.clients s.server.game).moves in
    messages_from s.server held (size_of s.server.moves - held)

-- by this event message m arrives at the client of game g
abbrev pub Brings : State → ℕ → Message → Event → Type 0
Brings s g m (adds_move code) = ⊥
Brings s g m takes_move_back = ⊥
Brings s g m (sends_move n) = ⊥
Brings s g m (loses_message k) = ⊥
Brings s g m (repeats_message k) = ⊥
Brings s g m (message_arrives k h) = (h ≡ g) × (take 1 (drop k s.messages) ≡ m ∷ [])
Brings s g m (asks_client h) = ⊥
Brings s g m (loses_answer k) = ⊥
Brings s g m (repeats_answer k) = ⊥
Brings s g m (hears_answer k) = ⊥

-- "receives every missing message in order": these messages arrive at the client of game g one after the other, whatever else happens in between
abbrev pub Receives : State → ℕ → List Message → List Event → Type 0
Receives s g [] es = Unit {0}
Receives s g (m ∷ ms) [] = ⊥
Receives s g (m ∷ ms) (e ∷ es) = (Brings s g m e × Receives (next s e) g ms es) ⊎ Receives (next s e) g (m ∷ ms) es
