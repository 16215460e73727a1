-- The steps of a run are the crate's own functions, by their contracts: what a function may answer, asked of what stands in a moment of a run,
-- is what the next moment has. `f.Post κs asked r after` is what the contract of f ensures: asked this, it may answer r. Assumes nothing.
use mathlib.Core.Path.{◌≡◌, refl, sym, ap, ◌∙◌}
use mathlib.Core.Bool.{true}
use mathlib.Core.List.{List, ◌∷◌}
use Prim.Native.Nat.{ℕ, ◌+◌, ◌≤◌}
use contract.Lifetimes.{Lfts}
use denote.MutBor.{MutBor}
use lib.ListN.{length, drop}
use borrow.Author.Tests.{eq-eqb, ne_eqb}
use Rattle.std.specs.Prelude.{Result, Ok, Err}
use Rattle.rules.specs.Answers.{answer, refusal_named}
use Rattle.rules.specs.declared.refusal.Refusal.{Refusal}
use Rattle.feed.specs.declared.message.Message.{Message}
use Rattle.feed.specs.declared.message.Answer.{Answer}
use Rattle.feed.specs.declared.client.Client.{Client}
use Rattle.feed.specs.declared.client.Taken.{Taken}
use Rattle.feed.specs.declared.server.Server.{Server}
use Rattle.feed.specs.Runs.{State, begun, Event, adds_move, takes_move_back, sends_move, message_arrives, asks_client, hears_answer, served, with_sent, delivered, heard_by, or_same, next, run}
use Rattle.feed.specs.Feed.{refusal_by, takes, held_refusal}
use Rattle.feed.specs.Runs.{AgreeAt, Quiet}
use Rattle.feed.proofs.Lent.{Keeps, same-refusal, same_taken, same-refused}
use Rattle.feed.proofs.Runs.{all_held}
use Rattle.feed.proofs.client.Client.new.Reads as new-client
use Rattle.feed.proofs.client.Client.ask.Reads as ask
use Rattle.feed.proofs.client.Client.take.Reads as take
use Rattle.feed.proofs.server.Server.new.Reads as new-server
use Rattle.feed.proofs.server.Server.add.Reads as add
use Rattle.feed.proofs.server.Server.take_back.Reads as take_back
use Rattle.feed.proofs.server.Server.message.Reads as message
use Rattle.feed.proofs.server.Server.hear.Reads as hear
use Rattle.feed.proofs.server.Server.holds_all.Reads as holds-all
use Rattle.feed.proofs.held.take_held.Reads as take-held

-- what a call may answer
abbrev pub Answered : {R S : Type 0} → (R → S → Type 0) → R → Type 0
Answered {S = S} post r = (after : S) × post r after

-- where a call may answer r, the bytes that it then leaves in its list are as said
abbrev pub Gave : {R S : Type 0} → (R → S → Type 0) → (S → MutBor (List ℕ)) → R → (List ℕ → Type 0) → Type 0
Gave {S = S} post lent r said = (after : S) → post r after → said (lent after).now

-- the start: `Server::new`, and `Client::new` for each number
pub server-starts : (κs : Lfts 0) (g : ℕ) (r : Server) → Answered (new-server.Post κs (g, tt)) r → (begun g).server ≡ r
unfolding begun
server-starts κs g r (s, e) = sym e

pub client-starts : (κs : Lfts 0) (g h : ℕ) (r : Client) → Answered (new-client.Post κs (h, tt)) r → (begun g).clients h ≡ r
unfolding begun
client-starts κs g h r (s, e) = sym e

module _ (κs : Lfts 0) (s : State) where
  -- `Server::add`, `take_back` and `message`
  pub adds-called : (code : ℕ) (r : Result Server Refusal) → Answered (add.Post κs (s.server, (code, tt))) r
      → (next s (adds_move code)).server ≡ or_same s.server r
  unfolding next served
  adds-called code r (_, e) = ap (λ (a : Result Server Refusal). or_same s.server a) (sym e)

  pub back-called : (r : Result Server Refusal) → Answered (take_back.Post κs (s.server, tt)) r
      → (next s takes_move_back).server ≡ or_same s.server r
  unfolding next served
  back-called r (_, e) = ap (λ (a : Result Server Refusal). or_same s.server a) (sym e)

  pub sends-called : (n : ℕ) (r : Result Message Refusal) → Answered (message.Post κs (s.server, (n, tt))) r
      → (next s (sends_move n)).messages ≡ with_sent r s.messages
  unfolding next
  sends-called n r (_, e) = ap (λ (a : Result Message Refusal). with_sent a s.messages) (sym e)

  -- `Client::take` of the k-th message on its way: the client after it, and its answer, on its way
  pub takes-called : (k g : ℕ) (m : Message) (ms : List Message) (r : Taken) → drop k s.messages ≡ m ∷ ms
      → Answered (take.Post κs (s.clients g, (m, tt))) r
      → ((next s (message_arrives k g)).clients g ≡ r.client) × ((next s (message_arrives k g)).answers ≡ r.answer ∷ s.answers)
  unfolding next delivered
  takes-called k g m ms r d (_, e) = (
    rw (d, eq-eqb g g refl) (ap (λ (t : Taken). t.client) (sym e)),
    rw d (ap (λ (t : Taken). t.answer ∷ s.answers) (sym e)),
  )

  -- `Client::ask`
  pub asks-called : (g : ℕ) (r : Answer) → Answered (ask.Post κs (s.clients g, tt)) r → (next s (asks_client g)).answers ≡ r ∷ s.answers
  unfolding next
  asks-called g r (_, e) = ap (λ (a : Answer). a ∷ s.answers) (sym e)

  -- `Server::hear` of the k-th answer on its way
  pub hears-called : (k : ℕ) (a : Answer) (rest : List Answer) (r : Server) → drop k s.answers ≡ a ∷ rest
      → Answered (hear.Post κs (s.server, (a, tt))) r → (next s (hears_answer k)).server ≡ r
  unfolding next heard_by
  hears-called k a rest r d (_, e) = rw d (sym e)

-- (2) of the call: where `Server::holds_all` answers true, both lists, both boards, all verdicts and forbidden lists are equal, until the server
-- adds a move or takes one back
pub holds-all-called : (κs : Lfts 0) (g : ℕ) (es ds : List Event) → Answered (holds-all.Post κs ((run (begun g) es).server, tt)) true
    → Quiet ds → AgreeAt (run (run (begun g) es) ds)
holds-all-called κs g es ds (_, e) still = all_held g es ds (sym e) still

-- `take_held` at a client whose list is lent: it answers and leaves what the client by value does
pub held-called : (κs : Lfts 1) (c : Client) (held : MutBor (List ℕ)) (count : ℕ) (m : Message) → length c.moves.codes ≡ 225
    → 225 ≤ length held.now → Keeps held.now count c → (r : Result ℕ Refusal)
    → Gave (take-held.Post κs (c.game, (held, (count, (m, tt))))) (λ s. s.1.0) r (λ left.
    (refusal_by c m ≡ 0 → (r ≡ Ok (count + 1)) × Keeps left (count + 1) (takes c m).client)
    × ((refusal_by c m ≡ 0 → ⊥) → (r ≡ Err (refusal_named (refusal_by c m))) × (left ≡ held.now)))
unfolding answer
held-called κs c held count m whole long keeps r s (e, o) =
    let same = same-refusal held.now count c m long keeps in (
      λ z. (
        e ∙ rw (eq-eqb (held_refusal c.game (length held.now) count m) 0 (same ∙ z)),
        rw o (same_taken held.now count c m long keeps whole z),
      ),
      λ d. (
        e ∙ rw (ne_eqb (held_refusal c.game (length held.now) count m) 0 (λ z. d (sym same ∙ z))) (ap (λ (n : ℕ). Err (refusal_named n)) same),
        o ∙ (same-refused held.now count c m long keeps d).0,
      ),
    )
