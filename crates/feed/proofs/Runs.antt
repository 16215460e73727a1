-- What holds in every run of the feed (specs/Runs.antt): document 02's No. 8, sentence by sentence. `run (begun g) es` is the moment after any
-- events es at a table whose first game number is g. Assumes nothing.
use mathlib.Core.Path.{◌≡◌, refl, sym, ap, subst, ◌∙◌}
use mathlib.Core.Logic.{◌⊎◌, inl, inr}
use mathlib.Core.Bool.{Bool, true, false, ◌&&◌, cond}
use mathlib.Core.List.{List, [], ◌∷◌}
use Prim.Native.Nat.{ℕ, zero, suc, ◌+◌, ◌-◌, ◌≤◌, ◌<◌, max}
use native.Mathlib.Omega.{arith}
use lib.Dec.{T, eqb, leb, ltb, lt→ltb, le→leb}
use lib.ListN.{length, get_or, take, drop}
use lib.Seq.{take_all}
use borrow.Author.Tests.{eqb-true, eqb-false, eq-eqb, ne_eqb}
use Rattle.rules.specs.Refusals.{no_point, many_moves, unless}
use Rattle.std.specs.Prelude.{Ok, Err}
use Rattle.rules.specs.Answers.{answer, refusal_named}
use Rattle.rules.specs.Forbidden.{strict_of, plain_of, forbidden_list}
use Rattle.rules.specs.Tools.{all_below}
use Rattle.rules.proofs.Logic.{decide, all-intro}
use Rattle.rules.proofs.Refusals.{pass, none_first}
use Rattle.cells.specs.Cells.{codes_refusal, moves_refusal, moves_cells}
use Rattle.feed.specs.declared.moves.Moves.{Moves}
use Rattle.feed.specs.declared.message.Message.{Message}
use Rattle.feed.specs.declared.message.Answer.{Answer}
use Rattle.feed.specs.declared.client.Client.{Client}
use Rattle.feed.specs.declared.server.Server.{Server}
use Rattle.feed.specs.Compare.{begins}
use Rattle.feed.specs.Feed.{list_of, size_of, grown, shrunk, add_refusal, back_refusal, answer_of, message_of, refusal_by, takes, adds_to, takes_back, hears, holds_all}
use Rattle.feed.specs.Runs.{State, begun, Event, adds_move, takes_move_back, sends_move, loses_message, repeats_message, message_arrives, asks_client, loses_answer, repeats_answer, hears_answer}
use Rattle.feed.specs.Runs.{served, delivered, heard_by, arrives, heard, or_same, next, run}
use Rattle.feed.specs.Runs.{held_in, FirstPart, Agree, AgreeAt, quiet, Quiet, messages_from, missing_at, Brings, Receives}
use Rattle.feed.proofs.Begins.{part-begins}
use Rattle.feed.proofs.Lists.{size-least, size-grown}
use Rattle.feed.proofs.Taking.{Next, none-take, refused-changes-nothing, foreign-changes-nothing, taken-grows, takes-size}
use Rattle.feed.proofs.Taking.{Heard, hears-own, hears-keeps}
use Rattle.feed.proofs.Kept.{Each, each_at, each-so, Said, Good, begun-good, next-good, more}
use Rattle.feed.proofs.Kept.{Points, now-points, points-fewer, at_each, part-fits}

-- ---- every moment of a run is good

pub run-good : (es : List Event) (s : State) → Good s → Good (run s es)
unfolding run
run-good [] s G = G
run-good (e ∷ es) s G = run-good es (next s e) (next-good s e G)

-- moves that are points, no more than there is room for, are not refused
unrefused : (l : List ℕ) → length l ≤ 225 → Points l → moves_refusal l ≡ 0
unfolding moves_refusal codes_refusal
unrefused l h p =
    none_first (unless (leb (length l) 225) many_moves) (unless (all_below (length l) (λ i. ltb (get_or l i 0) 225)) no_point)
    (pass (leb (length l) 225) many_moves (le→leb (length l) 225 h))
    (pass (all_below (length l) (λ i. ltb (get_or l i 0) 225)) no_point
    (all-intro (length l) (λ i. ltb (get_or l i 0) 225) (λ i k. lt→ltb (get_or l i 0) 225 (p i k))))

size_fits : (l : Moves) → length l.codes ≡ 225 → length (list_of l) ≤ 225
unfolding size_of
size_fits l e = omega (arith, size-least l)

module _ (g : ℕ) (es : List Event) where
  abbrev moment : State
  moment = run (begun g) es

  good : Good moment
  good = run-good es (begun g) (begun-good g)

  -- (1) "In any order of arrivals its list is the first part of the server's list of that game"
  pub first_part : (h : ℕ) → FirstPart (held_in moment h) (moment.lists h)
  first_part h = (good.client h).part

  -- .. by the test that the crate compares lists by
  pub begins-it : (h : ℕ) → begins (held_in moment h) (moment.lists h) ≡ true
  begins-it h = part-begins (held_in moment h) (moment.lists h) (first_part h)

  -- the list of the server's game number is the one that it has
  pub current-list : moment.lists moment.server.game ≡ list_of moment.server.moves
  current-list = good.current

  -- the client of a game answers under that game's number
  pub own-number : (h : ℕ) → (moment.clients h).game ≡ h
  own-number h = (good.client h).game

  -- "a new game number, never used before": no message on its way has a number above the server's, and no client of one holds a move
  pub never-used : (h : ℕ) → moment.server.game < h
      → (held_in moment h ≡ []) × Each (λ (m : Message). m.game ≡ h → ⊥) moment.messages
  never-used h l = (
    good.later h l,
    each-so (Said moment.server.game moment.lists) (λ (m : Message). m.game ≡ h → ⊥) moment.messages
        (λ m w e. omega (arith, w.game)) good.said,
  )

  -- what a client holds, and what the server has, is refused by nobody who takes moves: 225 at most, and points
  pub moves-given : (h : ℕ) → (moves_refusal (held_in moment h) ≡ 0) × (moves_refusal (list_of moment.server.moves) ≡ 0)
  moves-given h =
      let held = subst Points (sym (first_part h)) (points-fewer (moment.lists h) (length (held_in moment h)) (good.points h)) in (
        unrefused (held_in moment h) (size_fits (moment.clients h).moves (good.client h).whole) held,
        unrefused (list_of moment.server.moves) (size_fits moment.server.moves good.whole) (now-points moment good),
      )

  -- (5) what was heard under the server's game number, the client of that number holds
  pub heard-held : moment.server.heard ≤ size_of (moment.clients moment.server.game).moves
  heard-held = good.heard

-- the list of a game that the server has left, or not yet opened, stands as it is
pub left-stands : (s : State) (e : Event) (h : ℕ) → (h ≡ (next s e).server.game → ⊥) → (next s e).lists h ≡ s.lists h
unfolding next served delivered heard_by
left-stands s (adds_move code) h d = rw (ne_eqb h (or_same s.server (adds_to s.server code)).game d)
left-stands s takes_move_back h d = rw (ne_eqb h (or_same s.server (takes_back s.server)).game d)
left-stands s (sends_move n) h d = refl
left-stands s (loses_message k) h d = refl
left-stands s (repeats_message k) h d = refl
left-stands s (message_arrives k g) h d = go (drop k s.messages)
  where
    go : (l : List Message) → (arrives s k g l).lists h ≡ s.lists h
    go [] = refl
    go (m ∷ l) = refl
left-stands s (asks_client g) h d = refl
left-stands s (loses_answer k) h d = refl
left-stands s (repeats_answer k) h d = refl
left-stands s (hears_answer k) h d = go (drop k s.answers)
  where
    go : (l : List Answer) → (heard s k l).lists h ≡ s.lists h
    go [] = refl
    go (a ∷ l) = refl

-- ---- (4) a message that is refused changes no client

pub refused-keeps : (s : State) (k g : ℕ) (m : Message) (ms : List Message) → drop k s.messages ≡ m ∷ ms
    → (refusal_by (s.clients g) m ≡ 0 → ⊥) → (h : ℕ) → (next s (message_arrives k g)).clients h ≡ s.clients h
unfolding next delivered
refused-keeps s k g m ms e d h =
    rw e
    (at_each (λ h c. c ≡ s.clients h) g (takes (s.clients g) m).client s.clients (refused-changes-nothing (s.clients g) m d)
    (λ h n. refl) h)

-- .. and no message of another game changes one
pub foreign-keeps : (g : ℕ) (es : List Event) (k h : ℕ) (m : Message) (ms : List Message) → drop k (run (begun g) es).messages ≡ m ∷ ms
    → (m.game ≡ h → ⊥) → (i : ℕ) → (next (run (begun g) es) (message_arrives k h)).clients i ≡ (run (begun g) es).clients i
unfolding next delivered
foreign-keeps g es k h m ms e d i =
    let s = run (begun g) es in
    rw e
    (at_each (λ i c. c ≡ s.clients i) h (takes (s.clients h) m).client s.clients
    (foreign-changes-nothing (s.clients h) m (λ q. d (q ∙ own-number g es h))) (λ i n. refl) i)

-- ---- (2) "once the server has heard its full count under that number, and until it adds a move, both boards and all verdicts are equal"

-- a client that holds as many moves as the server has holds its list
full : (s : State) → Good s → size_of s.server.moves ≤ size_of (s.clients s.server.game).moves
    → held_in s s.server.game ≡ list_of s.server.moves
unfolding size_of
full s G h =
    let l = list_of s.server.moves in
    let held = held_in s s.server.game in
    let p : FirstPart held l = subst (FirstPart held) G.current (G.client s.server.game).part in
    p ∙ take_all (length held) l h

agree : (held list : List ℕ) → held ≡ list → Agree held list
agree held list e = record {
  lists = e;
  boards = ap moves_cells e;
  strict = λ p. ap (λ (l : List ℕ). strict_of (moves_cells l) p) e;
  plain = λ p. ap (λ (l : List ℕ). plain_of (moves_cells l) p) e;
  forbidden = ap (λ (l : List ℕ). forbidden_list (moves_cells l)) e;
}

agree_at : (s : State) → Good s → size_of s.server.moves ≤ size_of (s.clients s.server.game).moves → AgreeAt s
agree_at s G h = agree (held_in s s.server.game) (list_of s.server.moves) (full s G h)

-- the server through quiet events: the same game and moves, and what was heard never shrinks
same-server : (v : Server) → Heard v v
same-server v = record { game = refl; moves = refl; heard = omega arith }

next-quiet : (s : State) (e : Event) → T (quiet e) → Heard s.server (next s e).server
unfolding next delivered heard_by
next-quiet s (adds_move code) q = absurd q
next-quiet s takes_move_back q = absurd q
next-quiet s (sends_move n) q = same-server s.server
next-quiet s (loses_message k) q = same-server s.server
next-quiet s (repeats_message k) q = same-server s.server
next-quiet s (message_arrives k g) q = go (drop k s.messages)
  where
    go : (l : List Message) → Heard s.server (arrives s k g l).server
    go [] = same-server s.server
    go (m ∷ l) = same-server s.server
next-quiet s (asks_client g) q = same-server s.server
next-quiet s (loses_answer k) q = same-server s.server
next-quiet s (repeats_answer k) q = same-server s.server
next-quiet s (hears_answer k) q = go (drop k s.answers)
  where
    go : (l : List Answer) → Heard s.server (heard s k l).server
    go [] = same-server s.server
    go (a ∷ l) = hears-keeps s.server a

pub run-quiet : (es : List Event) (s : State) → Quiet es → Heard s.server (run s es).server
unfolding run
run-quiet [] s q = same-server s.server
run-quiet (e ∷ es) s q =
    let a = next-quiet s e q.0 in
    let b = run-quiet es (next s e) q.1 in
    record { game = b.game ∙ a.game; moves = b.moves ∙ a.moves; heard = omega (arith, a.heard, b.heard) }

-- the client of the server's game holds at most what the server has
holds-at-most : (s : State) → Good s → size_of (s.clients s.server.game).moves ≤ size_of s.server.moves
unfolding size_of
holds-at-most s G =
    omega (arith, part-fits (held_in s s.server.game) (s.lists s.server.game) (G.client s.server.game).part, ap length G.current)

-- the count that was heard fills the list after es; ds are any events but a move and a takeback
module _ (g : ℕ) (es ds : List Event) (full-count : holds_all (run (begun g) es).server ≡ true) (still : Quiet ds) where
  abbrev before : State
  before = run (begun g) es

  abbrev after-all : State
  after-all = run before ds

  kept : Good after-all
  kept = run-good ds before (good g es)

  filled : size_of after-all.server.moves ≤ after-all.server.heard
  unfolding holds_all
  filled =
      let k = run-quiet ds before still in
      let n = eqb-true before.server.heard (size_of before.server.moves) full-count in
      let m : size_of after-all.server.moves ≡ size_of before.server.moves = ap size_of k.moves in
      omega (arith, k.heard)

  -- both lists, both boards, all verdicts and forbidden lists are equal
  pub all_held : AgreeAt after-all
  all_held = agree_at after-all kept (omega (arith, filled, kept.heard))

  -- .. and the server goes on saying that the client holds all
  pub still-held : holds_all after-all.server ≡ true
  unfolding holds_all
  still-held =
      eq-eqb after-all.server.heard (size_of after-all.server.moves) (omega (arith, filled, kept.heard, holds-at-most after-all kept))

-- the server that hears the full count under its number says so
pub hears-all : (g : ℕ) (es : List Event) (k : ℕ) (a : Answer) (r : List Answer) → drop k (run (begun g) es).answers ≡ a ∷ r
    → a.game ≡ (run (begun g) es).server.game → a.count ≡ size_of (run (begun g) es).server.moves
    → holds_all (next (run (begun g) es) (hears_answer k)).server ≡ true
unfolding next heard_by holds_all
hears-all g es k a r e own told =
    let s = run (begun g) es in
    let n = holds-at-most s (good g es) in
    rw (e, hears-own s.server a own (omega arith))
    (eq-eqb (max s.server.heard a.count) (size_of s.server.moves) (omega (arith, heard-held g es)))

-- .. and a client that has caught up tells it
pub tells_all : (g : ℕ) (es : List Event) → AgreeAt (run (begun g) es)
    → answer_of ((run (begun g) es).clients (run (begun g) es).server.game)
    ≡ record { game = (run (begun g) es).server.game; count = size_of (run (begun g) es).server.moves }
unfolding answer_of size_of
tells_all g es both =
    let a = own-number g es (run (begun g) es).server.game in
    let b = ap length both.lists in
    λ i. record { game = a i; count = b i }

-- ---- (3) "A client that receives every missing message in order catches up."

-- no client ever holds fewer moves
next-size : (s : State) (e : Event) → Good s → (h : ℕ) → size_of (s.clients h).moves ≤ size_of ((next s e).clients h).moves
unfolding next served delivered heard_by
next-size s (adds_move code) G h = omega arith
next-size s takes_move_back G h = omega arith
next-size s (sends_move n) G h = omega arith
next-size s (loses_message k) G h = omega arith
next-size s (repeats_message k) G h = omega arith
next-size s (message_arrives k g) G h = go (drop k s.messages) refl
  where
    go : (l : List Message) → drop k s.messages ≡ l → size_of (s.clients h).moves ≤ size_of ((arrives s k g l).clients h).moves
    go [] e = omega arith
    go (m ∷ l) e = more s k g m G (each_at (Said s.server.game s.lists) k s.messages m l G.said e) h
next-size s (asks_client g) G h = omega arith
next-size s (loses_answer k) G h = omega arith
next-size s (repeats_answer k) G h = omega arith
next-size s (hears_answer k) G h = go (drop k s.answers)
  where
    go : (l : List Answer) → size_of (s.clients h).moves ≤ size_of ((heard s k l).clients h).moves
    go [] = omega arith
    go (a ∷ l) = omega arith

run-size : (es : List Event) (s : State) → Good s → (h : ℕ) → size_of (s.clients h).moves ≤ size_of ((run s es).clients h).moves
unfolding run
run-size [] s G h = omega arith
run-size (e ∷ es) s G h = omega (arith, next-size s e G h, run-size es (next s e) (next-good s e G) h)

-- the server's message of move k + 1, at a client of its game that holds k moves or more: afterwards it holds k + 1 or more
reaches : (s : State) (v : Server) (k : ℕ) → Good s → s.server.game ≡ v.game → s.server.moves ≡ v.moves
    → k ≤ size_of (s.clients v.game).moves → k < size_of v.moves
    → suc k ≤ size_of (takes (s.clients v.game) (message_of v (suc k))).client.moves
unfolding size_of
reaches s v k G eg em low high = go (decide (eqb (size_of c.moves) k))
  where
    c : Client
    c = s.clients v.game

    m : Message
    m = message_of v (suc k)

    whole : length c.moves.codes ≡ 225
    whole = (G.client v.game).whole

    next_one : size_of c.moves ≡ k → Next c.game (size_of c.moves) m
    next_one e = record {
      own = sym (G.client v.game).game;
      number = omega arith;
      code = subst (λ (l : Moves). Points (list_of l)) em (now-points s G) (suc k - 1) (omega arith);
      room = omega (arith, size-least v.moves, ap size_of em, size-least s.server.moves, G.whole);
    }

    go : (eqb (size_of c.moves) k ≡ true) ⊎ (eqb (size_of c.moves) k ≡ false) → suc k ≤ size_of (takes c m).client.moves
    go (inl q) =
        let e = eqb-true (size_of c.moves) k q in
        let n = next_one e in
        rw (taken-grows c m (none-take c.game (size_of c.moves) m n)) (omega (arith, size-grown c.moves m.code whole n.room))
    go (inr q) = omega (arith, eqb-false (size_of c.moves) k q, takes-size c m whole)

brought : (s : State) (g : ℕ) (m : Message) (e : Event) (n : ℕ) → Brings s g m e → n ≤ size_of (takes (s.clients g) m).client.moves
    → n ≤ size_of ((next s e).clients g).moves
unfolding next delivered
brought s g m (adds_move code) n b h = absurd b
brought s g m takes_move_back n b h = absurd b
brought s g m (sends_move k) n b h = absurd b
brought s g m (loses_message k) n b h = absurd b
brought s g m (repeats_message k) n b h = absurd b
brought s g m (message_arrives k i) n b h = go (drop k s.messages) b.1
  where
    go : (l : List Message) → take 1 l ≡ m ∷ [] → n ≤ size_of ((arrives s k i l).clients g).moves
    go [] e = let z : ◌≡◌ {A = ℕ} 0 1 = ap length e in absurd (omega arith)
    go (x ∷ l) e = let q : x ≡ m = cc in rw (b.0, q, eq-eqb g g refl) h
brought s g m (asks_client k) n b h = absurd b
brought s g m (loses_answer k) n b h = absurd b
brought s g m (repeats_answer k) n b h = absurd b
brought s g m (hears_answer k) n b h = absurd b

-- messages k + 1 to k + n arrive in order, at a client that held k moves or more
gets : (ds : List Event) (s : State) (v : Server) (k n : ℕ) → Good s → Quiet ds → s.server.game ≡ v.game
    → s.server.moves ≡ v.moves → k ≤ size_of (s.clients v.game).moves → k + n ≡ size_of v.moves
    → Receives s v.game (messages_from v k n) ds → size_of v.moves ≤ size_of ((run s ds).clients v.game).moves
unfolding run
gets ds s v k zero G q eg em low all r = omega (arith, run-size ds s G v.game)
gets [] s v k (suc n) G q eg em low all r = absurd r
gets (e ∷ ds) s v k (suc n) G q eg em low all (inl w) =
    let z = next-quiet s e q.0 in
    gets ds (next s e) v (suc k) n (next-good s e G) q.1 (z.game ∙ eg) (z.moves ∙ em)
    (brought s v.game (message_of v (suc k)) e (suc k) w.0 (reaches s v k G eg em low (omega arith))) (omega arith) w.1
gets (e ∷ ds) s v k (suc n) G q eg em low all (inr w) =
    let z = next-quiet s e q.0 in
    gets ds (next s e) v k (suc n) (next-good s e G) q.1 (z.game ∙ eg) (z.moves ∙ em)
    (omega (arith, next-size s e G v.game)) all w

pub catches-up : (g : ℕ) (es ds : List Event) → Quiet ds
    → Receives (run (begun g) es) (run (begun g) es).server.game (missing_at (run (begun g) es)) ds
    → AgreeAt (run (run (begun g) es) ds)
catches-up g es ds still r =
    let s = run (begun g) es in
    let G = good g es in
    let t = run s ds in
    let k = run-quiet ds s still in
    let n = holds-at-most s G in
    let w = gets ds s s.server (size_of (s.clients s.server.game).moves)
    (size_of s.server.moves - size_of (s.clients s.server.game).moves) G still refl refl (omega arith) (omega arith) r in
    agree_at t (run-good ds s G)
    (subst (λ (x : ℕ). size_of t.server.moves ≤ size_of (t.clients x).moves) (sym k.game) (omega (arith, w, ap size_of k.moves)))

-- ---- the server's number never falls; a takeback that is not refused opens the next one

game-either : (b : Bool) (v w : Server) → v.game ≤ w.game → v.game ≤ (cond b w v).game
game-either true v w h = h
game-either false v w h = omega arith

game-or-same : (refused : ℕ) (v w : Server) → v.game ≤ w.game → v.game ≤ (or_same v (answer refused w)).game
unfolding answer
game-or-same refused v w h = go (eqb refused 0)
  where
    go : (b : Bool) → v.game ≤ (or_same v (cond b (Ok w) (Err (refusal_named refused)))).game
    go true = h
    go false = omega arith

pub number-grows : (s : State) (e : Event) → s.server.game ≤ (next s e).server.game
unfolding next served adds_to takes_back heard_by hears delivered
number-grows s (adds_move code) =
    game-or-same (add_refusal (size_of s.server.moves) code) s.server
    (record { game = s.server.game; moves = grown s.server.moves code; heard = s.server.heard }) (omega arith)
number-grows s takes_move_back =
    game-or-same (back_refusal s.server) s.server (record { game = s.server.game + 1; moves = shrunk s.server.moves; heard = 0 }) (omega arith)
number-grows s (sends_move n) = omega arith
number-grows s (loses_message k) = omega arith
number-grows s (repeats_message k) = omega arith
number-grows s (message_arrives k g) = go (drop k s.messages)
  where
    go : (ms : List Message) → s.server.game ≤ (arrives s k g ms).server.game
    go [] = omega arith
    go (m ∷ ms) = omega arith
number-grows s (asks_client g) = omega arith
number-grows s (loses_answer k) = omega arith
number-grows s (repeats_answer k) = omega arith
number-grows s (hears_answer k) = go (drop k s.answers)
  where
    go : (told : List Answer) → s.server.game ≤ (heard s k told).server.game
    go [] = omega arith
    go (a ∷ told) =
        game-either (eqb a.game s.server.game && leb a.count (size_of s.server.moves)) s.server
        (record { game = s.server.game; moves = s.server.moves; heard = max s.server.heard a.count }) (omega arith)
