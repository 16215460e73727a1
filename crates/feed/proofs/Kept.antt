-- What every moment of a run keeps (`Good`), and that each event keeps it. Assumes nothing.
use mathlib.Core.Path.{◌≡◌, refl, sym, ap, subst, ◌∙◌}
use mathlib.Core.Logic.{◌⊎◌, inl, inr}
use mathlib.Core.Bool.{Bool, true, false, cond}
use mathlib.Core.List.{List, [], ◌∷◌, ◌++◌, append-nil}
use Prim.Native.Nat.{ℕ, zero, suc, ◌+◌, ◌-◌, ◌≤◌, ◌<◌, max}
use native.Mathlib.Omega.{arith}
use native.Mathlib.Nat.{not-suc-le-zero}
use lib.Dec.{T, eqb, leb, ltb, leb→le}
use lib.ListN.{length, get_or, take, drop, length-take, length-append, length-replicate, get_or-append}
use lib.Seq.{take-suc, take-append-le, get_or-take, get_or-append_seam}
use borrow.Author.Tests.{eq-eqb, ne_eqb, eqb-true, eqb-false, leb-true, leb-false, ltb-true, ltb-false}
use Rattle.rules.specs.Refusals.{not_next, unless}
use Rattle.rules.specs.Answers.{answer}
use Rattle.rules.proofs.Logic.{decide, and_left, and_right, true-T}
use Rattle.lent.specs.Lists.{zeros}
use Rattle.feed.specs.declared.message.Message.{Message}
use Rattle.feed.specs.declared.message.Answer.{Answer}
use Rattle.feed.specs.declared.client.Client.{Client}
use Rattle.feed.specs.declared.server.Server.{Server}
use Rattle.feed.specs.Feed.{list_of, size_of, no_moves, grown, shrunk, add_refusal, new_client, answer_of, refusal_by, takes, new_server}
use Rattle.feed.specs.Feed.{adds_to, last_game, takes_back, message_of, has_move, message_answer}
use Rattle.feed.specs.Runs.{State, begun, Event, adds_move, takes_move_back, sends_move, loses_message, repeats_message, message_arrives, asks_client, loses_answer, repeats_answer, hears_answer}
use Rattle.feed.specs.Runs.{without, twice, at, with_line, served, with_sent, delivered, heard_by, arrives, heard, or_same, next}
use Rattle.feed.specs.Runs.{held_in, FirstPart}
use Rattle.feed.proofs.Lists.{list-none, list-grown, codes-grown, list-shrunk}
use Rattle.feed.proofs.Taking.{take_none, add_none, refused-changes-nothing, taken-grows, takes-size}
use Rattle.feed.proofs.Taking.{add-taken, add-refused, back-taken, back-refused, hears-how}

-- ---- of everything that is on its way

abbrev pub Each : {A : Type 0} → (A → Type 0) → List A → Type 0
Each P [] = Unit {0}
Each P (x ∷ l) = P x × Each P l

-- .. with one lost, and with one repeated; of one that is met there
each-without : {A : Type 0} (P : A → Type 0) (k : ℕ) (l : List A) → Each P l → Each P (without k l)
unfolding without
each-without P k [] h = tt
each-without P zero (x ∷ l) h = h.1
each-without P (suc k) (x ∷ l) h = (h.0, each-without P k l h.1)

each_twice : {A : Type 0} (P : A → Type 0) (k : ℕ) (l : List A) → Each P l → Each P (twice k l)
unfolding twice
each_twice P k [] h = tt
each_twice P zero (x ∷ l) h = (h.0, h)
each_twice P (suc k) (x ∷ l) h = (h.0, each_twice P k l h.1)

each-drop : {A : Type 0} (P : A → Type 0) (k : ℕ) (l : List A) → Each P l → Each P (drop k l)
each-drop P zero l h = h
each-drop P (suc k) [] h = tt
each-drop P (suc k) (x ∷ l) h = each-drop P k l h.1

pub each_at : {A : Type 0} (P : A → Type 0) (k : ℕ) (l : List A) (x : A) (r : List A) → Each P l → drop k l ≡ x ∷ r → P x
each_at P k l x r h e = (subst (Each P) e (each-drop P k l h)).0

pub each-so : {A : Type 0} (P Q : A → Type 0) (l : List A) → ((x : A) → P x → Q x) → Each P l → Each Q l
each-so P Q [] f h = tt
each-so P Q (x ∷ l) f h = (f x h.0, each-so P Q l f h.1)

-- ---- what is kept

-- a message on its way, while the server's game number is `top`, is a move of its game's list
pub record Said (top : ℕ) (lists : ℕ → List ℕ) (m : Message) : Type 0 where
  pub game : m.game ≤ top
  pub first : 1 ≤ m.number
  pub last : m.number ≤ length (lists m.game)
  pub code : m.code ≡ get_or (lists m.game) (m.number - 1) 0

-- an answer on its way tells no more than the client of its game holds
abbrev pub Told : (ℕ → Client) → Answer → Type 0
Told clients a = a.count ≤ size_of (clients a.game).moves

-- the client of game g holds the first part of that game's list
pub record Holds (g : ℕ) (c : Client) (all : List ℕ) : Type 0 where
  pub game : c.game ≡ g
  pub whole : length c.moves.codes ≡ 225
  pub part : FirstPart (list_of c.moves) all

-- every code is a point's
abbrev pub Points : List ℕ → Type 0
Points l = (i : ℕ) → i < length l → get_or l i 0 < 225

pub record Good (s : State) : Type 0 where
  pub whole : length s.server.moves.codes ≡ 225
  -- every list names points only
  pub points : (g : ℕ) → Points (s.lists g)
  pub current : s.lists s.server.game ≡ list_of s.server.moves
  -- no client of a game that is not yet opened holds a move
  pub later : (g : ℕ) → s.server.game < g → held_in s g ≡ []
  pub client : (g : ℕ) → Holds g (s.clients g) (s.lists g)
  pub said : Each (Said s.server.game s.lists) s.messages
  pub told : Each (Told s.clients) s.answers
  -- what was heard, the client holds
  pub heard : s.server.heard ≤ size_of (s.clients s.server.game).moves

pub now-points : (s : State) → Good s → Points (list_of s.server.moves)
now-points s G = subst Points G.current (G.points s.server.game)

-- ---- maps, and first parts

pub at_each : {A : Type 0} (P : ℕ → A → Type 0) (g : ℕ) (x : A) (f : ℕ → A) → P g x → ((h : ℕ) → (h ≡ g → ⊥) → P h (f h)) → (h : ℕ)
    → P h (at g x f h)
at_each {A} P g x f p q h = go (eqb h g) refl
  where
    go : (b : Bool) → eqb h g ≡ b → P h (cond b x (f h))
    go true e = subst (λ (k : ℕ). P k x) (sym (eqb-true h g e)) p
    go false e = q h (eqb-false h g e)

pub at_same : {A : Type 0} (g : ℕ) (x : A) (f : ℕ → A) → at g x f g ≡ x
at_same g x f = rw (eq-eqb g g refl)

pub part-fits : (s t : List ℕ) → FirstPart s t → length s ≤ length t
part-fits s t e = omega (arith, ap length e, length-take (length s) t)

part_none : (s t : List ℕ) → s ≡ [] → FirstPart s t
part_none s t e = rw e

part-longer : (s t r : List ℕ) → FirstPart s t → FirstPart s (t ++ r)
part-longer s t r e = e ∙ sym (take-append-le (length s) t r (part-fits s t e))

part-more : (s t : List ℕ) → FirstPart s t → length s < length t → FirstPart (s ++ (get_or t (length s) 0 ∷ [])) t
part-more s t e h =
    let n : suc (length s) ≡ length (s ++ (get_or t (length s) 0 ∷ [])) = omega (arith, length-append s (get_or t (length s) 0 ∷ [])) in
    ap (λ (u : List ℕ). u ++ (get_or t (length s) 0 ∷ [])) e ∙ sym (take-suc t (length s) 0 h) ∙ ap (λ (n : ℕ). take n t) n

-- ---- the start

pub begun-good : (g : ℕ) → Good (begun g)
unfolding begun new_server new_client no_moves zeros
begun-good g = record {
  whole = length-replicate {A = ℕ} 225 0;
  points = λ h i l. absurd (not-suc-le-zero l);
  current = sym list-none;
  later = λ h l. list-none;
  client = λ h. record { game = refl; whole = length-replicate {A = ℕ} 225 0; part = part_none _ [] list-none };
  said = tt;
  told = tt;
  heard = omega arith;
}

-- ---- messages are sent, lost and repeated; clients are asked; answers are lost and repeated

line-good : (s : State) (messages : List Message) (answers : List Answer) → Good s → Each (Said s.server.game s.lists) messages
    → Each (Told s.clients) answers → Good (with_line s messages answers)
line-good s messages answers G said told = record {
  whole = G.whole;
  points = G.points;
  current = G.current;
  later = G.later;
  client = G.client;
  said = said;
  told = told;
  heard = G.heard;
}

-- the message of a move that the server has
module _ (s : State) (n : ℕ) (G : Good s) where
  said-move : T (has_move s.server n) → Said s.server.game s.lists (message_of s.server n)
  unfolding has_move size_of
  said-move t =
      let l = list_of s.server.moves in
      let a = leb→le 1 n (and_left (leb 1 n) (leb n (length l)) t) in
      let b = leb→le n (length l) (and_right (leb 1 n) (leb n (length l)) t) in
      record {
        game = omega arith;
        first = a;
        last = rw G.current b;
        code = rw G.current;
      }

  said-sent : Each (Said s.server.game s.lists) (with_sent (message_answer s.server n) s.messages)
  unfolding message_answer answer unless
  said-sent = go (has_move s.server n) refl
    where
      go : (b : Bool) → has_move s.server n ≡ b
          → Each (Said s.server.game s.lists) (with_sent (answer (unless b not_next) (message_of s.server n)) s.messages)
      go true e = (said-move (true-T e), G.said)
      go false e = G.said

-- a client that is asked
told-asked : (s : State) (g : ℕ) → Good s → Told s.clients (answer_of (s.clients g))
unfolding answer_of
told-asked s g G = rw (G.client g).game (omega arith)

-- ---- a message arrives

module _ (s : State) (k g : ℕ) (m : Message) (G : Good s) (was : Said s.server.game s.lists m) where
  -- the client before and after
  abbrev old : Client
  old = s.clients g

  abbrev new : Client
  new = (takes old m).client

  taken-holds : refusal_by old m ≡ 0 → Holds g new (s.lists g)
  unfolding size_of
  taken-holds z =
      let n = take_none old.game (size_of old.moves) m z in
      let H = G.client g in
      let own : m.game ≡ g = n.own ∙ H.game in
      let S =
      subst (λ (h : ℕ). Said s.server.game s.lists (record { game = h; number = m.number; code = m.code })) own was in
      let j = length (list_of old.moves) in
      let at_j : m.number - 1 ≡ j = omega (arith, n.number) in
      let same : m.code ≡ get_or (s.lists g) j 0 = S.code ∙ ap (λ (i : ℕ). get_or (s.lists g) i 0) at_j in
      let fits : j < length (s.lists g) = omega (arith, n.number, S.last) in
      rw (taken-grows old m z)
      (record {
        game = H.game;
        whole = codes-grown old.moves m.code H.whole n.room;
        part = rw (list-grown old.moves m.code H.whole n.room, same)
            (part-more (list_of old.moves) (s.lists g) H.part fits);
      })

  new-holds : Holds g new (s.lists g)
  new-holds = go (decide (eqb (refusal_by old m) 0))
    where
      go : (eqb (refusal_by old m) 0 ≡ true) ⊎ (eqb (refusal_by old m) 0 ≡ false) → Holds g new (s.lists g)
      go (inl e) = taken-holds (eqb-true (refusal_by old m) 0 e)
      go (inr e) = rw (refused-changes-nothing old m (eqb-false (refusal_by old m) 0 e)) (G.client g)

  -- no message of a game that is not yet opened is on its way
  new-later : s.server.game < g → list_of new.moves ≡ []
  new-later l =
      let never : refusal_by old m ≡ 0 → ⊥ =
      λ z. omega (arith, (take_none old.game (size_of old.moves) m z).own, (G.client g).game, was.game) in
      rw (refused-changes-nothing old m never) (G.later g l)

  -- no client holds fewer
  pub more : (h : ℕ) → size_of (s.clients h).moves ≤ size_of (at g new s.clients h).moves
  more = at_each (λ h c. size_of (s.clients h).moves ≤ size_of c.moves) g new s.clients (takes-size old m (G.client g).whole)
      (λ h d. omega arith)

  told-new : Told (at g new s.clients) (takes old m).answer
  unfolding takes answer_of
  told-new = rw (new-holds.game, eq-eqb g g refl) (omega arith)

  pub delivered-good : Good (delivered s k g m)
  unfolding delivered
  delivered-good = record {
    whole = G.whole;
    points = G.points;
    current = G.current;
    later = at_each (λ h c. s.server.game < h → list_of c.moves ≡ []) g new s.clients new-later (λ h d. G.later h);
    client = at_each (λ h c. Holds h c (s.lists h)) g new s.clients new-holds (λ h d. G.client h);
    said = each-without (Said s.server.game s.lists) k s.messages G.said;
    told = (
      told-new,
      each-so (Told s.clients) (Told (at g new s.clients)) s.answers (λ a h. omega (arith, h, more a.game)) G.told,
    );
    heard = omega (arith, G.heard, more s.server.game);
  }

arrives-good : (s : State) (k g : ℕ) → Good s → Good (arrives s k g (drop k s.messages))
arrives-good s k g G = go (drop k s.messages) refl
  where
    go : (l : List Message) → drop k s.messages ≡ l → Good (arrives s k g l)
    go [] e = G
    go (m ∷ ms) e = delivered-good s k g m G (each_at (Said s.server.game s.lists) k s.messages m ms G.said e)

-- ---- an answer is heard

heard_by-good : (s : State) (k : ℕ) (a : Answer) → Good s → Told s.clients a → Good (heard_by s k a)
unfolding heard_by
heard_by-good s k a G was =
    hears-how (λ v. Good (record { server = v; lists = s.lists; clients = s.clients; messages = s.messages; answers = without k s.answers }))
    s.server a news (line-good s s.messages (without k s.answers) G G.said rest)
  where
    rest : Each (Told s.clients) (without k s.answers)
    rest = each-without (Told s.clients) k s.answers G.told

    news : a.game ≡ s.server.game → a.count ≤ size_of s.server.moves → Good (record {
      server = record { game = s.server.game; moves = s.server.moves; heard = max s.server.heard a.count };
      lists = s.lists;
      clients = s.clients;
      messages = s.messages;
      answers = without k s.answers;
    })
    news e h =
        let fits : a.count ≤ size_of (s.clients s.server.game).moves =
        subst (λ (g : ℕ). a.count ≤ size_of (s.clients g).moves) e was in
        record {
          whole = G.whole;
          points = G.points;
          current = G.current;
          later = G.later;
          client = G.client;
          said = G.said;
          told = rest;
          heard = omega (arith, G.heard, fits);
        }

heard-good : (s : State) (k : ℕ) → Good s → Good (heard s k (drop k s.answers))
heard-good s k G = go (drop k s.answers) refl
  where
    go : (l : List Answer) → drop k s.answers ≡ l → Good (heard s k l)
    go [] e = G
    go (a ∷ r) e = heard_by-good s k a G (each_at (Told s.clients) k s.answers a r G.told e)

-- ---- the server's own steps

-- one list is another with some more behind it
abbrev Grew : List ℕ → List ℕ → Type 0
Grew s t = (r : List ℕ) × (t ≡ s ++ r)

module _ (s : State) (v : Server) (G : Good s)
    (whole : length v.moves.codes ≡ 225)
    (points : Points (list_of v.moves))
    (up : s.server.game ≤ v.game)
    (grew : (h : ℕ) → h ≤ s.server.game → Grew (s.lists h) (at v.game (list_of v.moves) s.lists h))
    (heard : v.heard ≤ size_of (s.clients v.game).moves) where
  abbrev lists : ℕ → List ℕ
  lists = at v.game (list_of v.moves) s.lists

  part-kept : (g : ℕ) → FirstPart (held_in s g) (lists g)
  part-kept g = go (decide (leb g s.server.game))
    where
      go : (leb g s.server.game ≡ true) ⊎ (leb g s.server.game ≡ false) → FirstPart (held_in s g) (lists g)
      go (inl e) =
          let w = grew g (leb-true g s.server.game e) in
          rw w.1 (part-longer (held_in s g) (s.lists g) w.0 (G.client g).part)
      go (inr e) = part_none (held_in s g) (lists g) (G.later g (leb-false g s.server.game e))

  said-kept : (m : Message) → Said s.server.game s.lists m → Said v.game lists m
  said-kept m p =
      let w = grew m.game p.game in
      let l = s.lists m.game in
      record {
        game = omega (arith, p.game);
        first = p.first;
        last = rw w.1 (omega (arith, p.last, length-append l w.0));
        code = rw w.1 (p.code ∙ sym (get_or-append l w.0 0 (m.number - 1) (omega (arith, p.first, p.last))));
      }

  served-good : Good (served s v)
  unfolding served
  served-good = record {
    whole = whole;
    points = at_each (λ h l. Points l) v.game (list_of v.moves) s.lists points (λ h d. G.points h);
    current = at_same v.game (list_of v.moves) s.lists;
    later = λ g l. G.later g (omega arith);
    client = λ g. record { game = (G.client g).game; whole = (G.client g).whole; part = part-kept g };
    said = each-so (Said s.server.game s.lists) (Said v.game lists) s.messages said-kept G.said;
    told = G.told;
    heard = heard;
  }

-- the lists by game number where the server's own has some more behind it, under the same number
same-grew : (s : State) (v : Server) (r : List ℕ) → Good s → v.game ≡ s.server.game → list_of v.moves ≡ list_of s.server.moves ++ r
    → (h : ℕ) → Grew (s.lists h) (at v.game (list_of v.moves) s.lists h)
same-grew s v r G e q =
    at_each (λ h l. Grew (s.lists h) l) v.game (list_of v.moves) s.lists
    (r, q ∙ ap (λ (l : List ℕ). l ++ r) (sym (ap s.lists e ∙ G.current))) (λ h d. ([], sym (append-nil (s.lists h))))

-- a server that is as it was
same_good : (s : State) → Good s → Good (served s s.server)
same_good s G =
    served-good s s.server G G.whole (now-points s G) (omega arith)
    (λ h l. same-grew s s.server [] G refl (sym (append-nil (list_of s.server.moves))) h) G.heard

-- a move is added
points-more : (l : List ℕ) (code : ℕ) → Points l → code < 225 → Points (l ++ (code ∷ []))
points-more l code p h i k = go (decide (ltb i (length l)))
  where
    go : (ltb i (length l) ≡ true) ⊎ (ltb i (length l) ≡ false) → get_or (l ++ (code ∷ [])) i 0 < 225
    go (inl e) = let b = ltb-true i (length l) e in rw (get_or-append l (code ∷ []) 0 i b) (p i b)
    go (inr e) =
        let b : i ≡ length l = omega (arith, ltb-false i (length l) e, length-append l (code ∷ [])) in
        rw (b, get_or-append_seam l code [] 0) h

adds-good : (s : State) (code : ℕ) → Good s → Good (served s (or_same s.server (adds_to s.server code)))
adds-good s code G = go (decide (eqb refused 0))
  where
    refused : ℕ
    refused = add_refusal (size_of s.server.moves) code

    added-good : refused ≡ 0 → Good (served s (or_same s.server (adds_to s.server code)))
    added-good z =
        let l = s.server.moves in
        let n = add_none (size_of l) code z in
        let e = list-grown l code G.whole n.1 in
        let v : Server = record { game = s.server.game; moves = grown l code; heard = s.server.heard } in
        subst (λ (w : Server). Good (served s w)) (sym (add-taken s.server code z))
        (served-good s v G (codes-grown l code G.whole n.1)
        (subst Points (sym e) (points-more (list_of l) code (now-points s G) n.0))
        (omega arith) (λ h k. same-grew s v (code ∷ []) G refl e h) G.heard)

    go : (eqb refused 0 ≡ true) ⊎ (eqb refused 0 ≡ false) → Good (served s (or_same s.server (adds_to s.server code)))
    go (inl e) = added-good (eqb-true refused 0 e)
    go (inr e) =
        subst (λ (w : Server). Good (served s w)) (sym (add-refused s.server code (eqb-false refused 0 e))) (same_good s G)

-- the last move is taken back, under a new game number
pub points-fewer : (l : List ℕ) (n : ℕ) → Points l → Points (take n l)
points-fewer l n p i k =
    let b = length-take n l in
    rw (get_or-take n l i 0 (omega arith)) (p i (omega arith))

other-grew : (g : ℕ) (x : List ℕ) (f : ℕ → List ℕ) (h : ℕ) → (h ≡ g → ⊥) → Grew (f h) (at g x f h)
other-grew g x f h d = ([], rw (ne_eqb h g d) (sym (append-nil (f h))))

back-good : (s : State) → Good s → Good (served s (or_same s.server (takes_back s.server)))
unfolding shrunk
back-good s G = go (decide (eqb s.server.game last_game))
  where
    opened-good : (s.server.game ≡ last_game → ⊥) → Good (served s (or_same s.server (takes_back s.server)))
    opened-good d =
        let l = s.server.moves in
        let v : Server = record { game = s.server.game + 1; moves = shrunk l; heard = 0 } in
        subst (λ (w : Server). Good (served s w)) (sym (back-taken s.server d))
        (served-good s v G G.whole
        (subst Points (sym (list-shrunk l))
        (points-fewer (list_of l) (size_of l - 1) (now-points s G)))
        (omega arith)
        (λ h k. other-grew (s.server.game + 1) (list_of (shrunk l)) s.lists h (λ e. omega arith)) (omega arith))

    go : (eqb s.server.game last_game ≡ true) ⊎ (eqb s.server.game last_game ≡ false) → Good (served s (or_same s.server (takes_back s.server)))
    go (inl e) =
        subst (λ (w : Server). Good (served s w)) (sym (back-refused s.server (eqb-true s.server.game last_game e))) (same_good s G)
    go (inr e) = opened-good (eqb-false s.server.game last_game e)

-- ---- every event

pub next-good : (s : State) (e : Event) → Good s → Good (next s e)
unfolding next
next-good s (adds_move code) G = adds-good s code G
next-good s takes_move_back G = back-good s G
next-good s (sends_move n) G = line-good s _ _ G (said-sent s n G) G.told
next-good s (loses_message k) G = line-good s _ _ G (each-without (Said s.server.game s.lists) k s.messages G.said) G.told
next-good s (repeats_message k) G = line-good s _ _ G (each_twice (Said s.server.game s.lists) k s.messages G.said) G.told
next-good s (message_arrives k g) G = arrives-good s k g G
next-good s (asks_client g) G = line-good s _ _ G G.said (told-asked s g G, G.told)
next-good s (loses_answer k) G = line-good s _ _ G G.said (each-without (Told s.clients) k s.answers G.told)
next-good s (repeats_answer k) G = line-good s _ _ G G.said (each_twice (Told s.clients) k s.answers G.told)
next-good s (hears_answer k) G = heard-good s k G
