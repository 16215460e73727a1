-- What a client's taking and a server's adding, taking back and hearing do to their lists; and that what is refused changes nothing.
-- Assumes nothing.
use mathlib.Core.Path.{◌≡◌, refl, sym, ◌∙◌}
use mathlib.Core.Logic.{◌⊎◌, inl, inr}
use mathlib.Core.Bool.{true, false, cond}
use Prim.Native.Nat.{ℕ, ◌+◌, ◌≤◌, ◌<◌, max}
use native.Mathlib.Omega.{arith}
use lib.Dec.{eqb, leb, ltb, eqb→eq, ltb→lt}
use lib.ListN.{length}
use borrow.Author.Tests.{eq-eqb, ne_eqb, eqb-true, eqb-false, lt-ltb, le-leb, lt-leb, leb-true, leb-false}
use Rattle.rules.specs.Refusals.{no_point, no_room, many_moves, first, unless, code_refusal, foreign_game, not_next}
use Rattle.rules.specs.Answers.{answer}
use Rattle.rules.proofs.Refusals.{first-none, none_first, passed, pass}
use Rattle.rules.proofs.Logic.{decide, true-T}
use Rattle.feed.specs.declared.message.Message.{Message}
use Rattle.feed.specs.declared.message.Answer.{Answer}
use Rattle.feed.specs.declared.client.Client.{Client}
use Rattle.feed.specs.declared.server.Server.{Server}
use Rattle.feed.specs.Feed.{size_of, grown, shrunk, add_refusal, take_refusal, refusal_by, after, takes, answer_of}
use Rattle.feed.specs.Feed.{held_refusal, adds_to, last_game, back_refusal, takes_back, hears}
use Rattle.feed.specs.Runs.{or_same}
use Rattle.feed.proofs.Lists.{size-grown}

-- ---- refusals

-- a code that can be added
pub add_none : (count code : ℕ) → add_refusal count code ≡ 0 → (code < 225) × (count < 225)
unfolding add_refusal code_refusal
add_none count code e =
    let p = first-none (code_refusal code) (unless (ltb count 225) many_moves) e in
    (ltb→lt code 225 (passed (ltb code 225) 7 p.0), ltb→lt count 225 (passed (ltb count 225) 13 p.1))

pub none-add : (count code : ℕ) → code < 225 → count < 225 → add_refusal count code ≡ 0
unfolding add_refusal code_refusal
none-add count code h k =
    none_first (code_refusal code) (unless (ltb count 225) many_moves) (pass (ltb code 225) no_point (true-T (lt-ltb code 225 h)))
    (pass (ltb count 225) many_moves (true-T (lt-ltb count 225 k)))

-- a message that is taken is the next of the client's own game, and a point
pub record Next (game count : ℕ) (m : Message) : Type 0 where
  pub own : m.game ≡ game
  pub number : m.number ≡ count + 1
  pub code : m.code < 225
  pub room : count < 225

module _ (game count : ℕ) (m : Message) where
  pub take_none : take_refusal game count m ≡ 0 → Next game count m
  unfolding take_refusal
  take_none e =
      let p = first-none (unless (eqb m.game game) foreign_game) _ e in
      let q = first-none (unless (eqb m.number (count + 1)) not_next) (add_refusal count m.code) p.1 in
      let r = add_none count m.code q.1 in
      record {
        own = eqb→eq m.game game (passed (eqb m.game game) 16 p.0);
        number = eqb→eq m.number (count + 1) (passed (eqb m.number (count + 1)) 17 q.0);
        code = r.0;
        room = r.1;
      }

  pub none-take : Next game count m → take_refusal game count m ≡ 0
  unfolding take_refusal
  none-take n =
      none_first (unless (eqb m.game game) foreign_game) _
      (pass (eqb m.game game) foreign_game (true-T (eq-eqb m.game game n.own)))
      (none_first (unless (eqb m.number (count + 1)) not_next) (add_refusal count m.code)
      (pass (eqb m.number (count + 1)) not_next (true-T (eq-eqb m.number (count + 1) n.number)))
      (none-add count m.code n.code n.room))

  -- .. and, where the list is lent, there is a byte for it
  pub held_none : (room : ℕ) → held_refusal game room count m ≡ 0 → Next game count m × (count < room)
  unfolding held_refusal
  held_none room e =
      let p = first-none (take_refusal game count m) (unless (ltb count room) no_room) e in
      (take_none p.0, ltb→lt count room (passed (ltb count room) 12 p.1))

  -- a list of 225 bytes or more is refused nothing for its room: who is not refused before has one left
  pub held-take : (room : ℕ) → 225 ≤ room → held_refusal game room count m ≡ take_refusal game count m
  unfolding held_refusal first
  held-take room h = go (decide (eqb (take_refusal game count m) 0))
    where
      go : (eqb (take_refusal game count m) 0 ≡ true) ⊎ (eqb (take_refusal game count m) 0 ≡ false)
          → cond (eqb (take_refusal game count m) 0) (unless (ltb count room) no_room) (take_refusal game count m) ≡ take_refusal game count m
      go (inl e) =
          let z = eqb-true (take_refusal game count m) 0 e in
          rw e (pass (ltb count room) no_room (true-T (lt-ltb count room (omega (arith, (take_none z).room)))) ∙ sym z)
      go (inr e) = rw e

-- ---- (4) "none changes the client"

pub refused-changes-nothing : (c : Client) (m : Message) → (refusal_by c m ≡ 0 → ⊥) → (takes c m).client ≡ c
unfolding takes after
refused-changes-nothing c m h = rw (ne_eqb (refusal_by c m) 0 h)

-- .. nor does a message of another game, or one whose number is not next
pub foreign-changes-nothing : (c : Client) (m : Message) → (m.game ≡ c.game → ⊥) → (takes c m).client ≡ c
foreign-changes-nothing c m h = refused-changes-nothing c m (λ e. h (take_none c.game (size_of c.moves) m e).own)

pub late-changes-nothing : (c : Client) (m : Message) → (m.number ≡ size_of c.moves + 1 → ⊥) → (takes c m).client ≡ c
late-changes-nothing c m h = refused-changes-nothing c m (λ e. h (take_none c.game (size_of c.moves) m e).number)

-- a message that is taken is one move more
pub taken-grows : (c : Client) (m : Message) → refusal_by c m ≡ 0
    → (takes c m).client ≡ record { game = c.game; moves = grown c.moves m.code }
unfolding takes after
taken-grows c m e = rw (eq-eqb (refusal_by c m) 0 e)

-- every answer is that of the client after it, a refusal's too
pub answers-after : (c : Client) (m : Message) → (takes c m).answer ≡ answer_of (takes c m).client
unfolding takes
answers-after c m = refl

-- a client never holds fewer
pub takes-size : (c : Client) (m : Message) → length c.moves.codes ≡ 225 → size_of c.moves ≤ size_of (takes c m).client.moves
takes-size c m whole = go (decide (eqb (refusal_by c m) 0))
  where
    go : (eqb (refusal_by c m) 0 ≡ true) ⊎ (eqb (refusal_by c m) 0 ≡ false) → size_of c.moves ≤ size_of (takes c m).client.moves
    go (inl e) =
        let z = eqb-true (refusal_by c m) 0 e in
        let n = take_none c.game (size_of c.moves) m z in
        rw (taken-grows c m z) (omega (arith, size-grown c.moves m.code whole n.room))
    go (inr e) = rw (refused-changes-nothing c m (eqb-false (refusal_by c m) 0 e)) (omega arith)

-- ---- adding and taking back

pub add-taken : (v : Server) (code : ℕ) → add_refusal (size_of v.moves) code ≡ 0
    → or_same v (adds_to v code) ≡ record { game = v.game; moves = grown v.moves code; heard = v.heard }
unfolding adds_to answer
add-taken v code e = rw (eq-eqb (add_refusal (size_of v.moves) code) 0 e)

pub add-refused : (v : Server) (code : ℕ) → (add_refusal (size_of v.moves) code ≡ 0 → ⊥) → or_same v (adds_to v code) ≡ v
unfolding adds_to answer
add-refused v code h = rw (ne_eqb (add_refusal (size_of v.moves) code) 0 h)

pub back-taken : (v : Server) → (v.game ≡ last_game → ⊥)
    → or_same v (takes_back v) ≡ record { game = v.game + 1; moves = shrunk v.moves; heard = 0 }
unfolding takes_back back_refusal answer
back-taken v h = rw (ne_eqb v.game last_game h)

pub back-refused : (v : Server) → v.game ≡ last_game → or_same v (takes_back v) ≡ v
unfolding takes_back back_refusal answer
back-refused v e = rw (eq-eqb v.game last_game e)

-- ---- (5) hearing: for its own game number only, and never less than before

pub hears-own : (v : Server) (a : Answer) → a.game ≡ v.game → a.count ≤ size_of v.moves
    → hears v a ≡ record { game = v.game; moves = v.moves; heard = max v.heard a.count }
unfolding hears
hears-own v a e h = rw (eq-eqb a.game v.game e, le-leb a.count (size_of v.moves) h)

pub hears-other : (v : Server) (a : Answer) → (a.game ≡ v.game → ⊥) → hears v a ≡ v
unfolding hears
hears-other v a h = rw (ne_eqb a.game v.game h)

pub hears-over : (v : Server) (a : Answer) → a.game ≡ v.game → size_of v.moves < a.count → hears v a ≡ v
unfolding hears
hears-over v a e h = rw (eq-eqb a.game v.game e, lt-leb a.count (size_of v.moves) h)

-- one of the three
pub hears-how : (P : Server → Type 0) (v : Server) (a : Answer)
    → (a.game ≡ v.game → a.count ≤ size_of v.moves → P (record { game = v.game; moves = v.moves; heard = max v.heard a.count }))
    → P v → P (hears v a)
hears-how P v a news old = go (decide (eqb a.game v.game)) (decide (leb a.count (size_of v.moves)))
  where
    go : (eqb a.game v.game ≡ true) ⊎ (eqb a.game v.game ≡ false)
        → (leb a.count (size_of v.moves) ≡ true) ⊎ (leb a.count (size_of v.moves) ≡ false) → P (hears v a)
    go (inl e) (inl h) =
        let q = eqb-true a.game v.game e in
        let k = leb-true a.count (size_of v.moves) h in
        rw (hears-own v a q k) (news q k)
    go (inl e) (inr h) = rw (hears-over v a (eqb-true a.game v.game e) (leb-false a.count (size_of v.moves) h)) old
    go (inr e) h = rw (hears-other v a (eqb-false a.game v.game e)) old

-- the game and its moves are as they were, and what was heard never shrinks
pub record Heard (v w : Server) : Type 0 where
  pub game : w.game ≡ v.game
  pub moves : w.moves ≡ v.moves
  pub heard : v.heard ≤ w.heard

pub hears-keeps : (v : Server) (a : Answer) → Heard v (hears v a)
hears-keeps v a =
    hears-how (Heard v) v a (λ e h. record { game = refl; moves = refl; heard = omega arith })
    (record { game = refl; moves = refl; heard = omega arith })
