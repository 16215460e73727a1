-- A client that keeps its list in lent bytes is a client by value: what is refused is the same, and the leading bytes are its list. So what
-- is said of the clients of a run is said of a caller that lends 225 bytes and keeps the count that it is given. Assumes nothing.
use mathlib.Core.Path.{◌≡◌, sym, ap, ◌∙◌}
use mathlib.Core.List.{List, [], ◌∷◌, ◌++◌}
use Prim.Native.Nat.{ℕ, ◌+◌, ◌≤◌, ◌<◌}
use native.Mathlib.Omega.{arith}
use native.Mathlib.Numerals.{add-one}
use lib.ListN.{length, take, set}
use lib.Seq.{take-suc-set}
use borrow.Author.Tests.{eq-eqb, ne_eqb}
use Rattle.feed.specs.declared.message.Message.{Message}
use Rattle.feed.specs.declared.client.Client.{Client}
use Rattle.feed.specs.Feed.{list_of, size_of, take_refusal, refusal_by, takes, held_refusal, held_after}
use Rattle.feed.proofs.Lists.{list-grown, size-grown}
use Rattle.feed.proofs.Taking.{take_none, held-take, refused-changes-nothing, taken-grows}

-- the first `count` bytes of a lent list are what the client holds
pub record Keeps (held : List ℕ) (count : ℕ) (c : Client) : Type 0 where
  pub list : take count held ≡ list_of c.moves
  pub size : count ≡ size_of c.moves

module _ (held : List ℕ) (count : ℕ) (c : Client) (m : Message) (long : 225 ≤ length held) (keeps : Keeps held count c) where
  pub same-refusal : held_refusal c.game (length held) count m ≡ refusal_by c m
  same-refusal = held-take c.game count m (length held) long ∙ ap (λ (n : ℕ). take_refusal c.game n m) keeps.size

  -- taken: one move more for both
  pub same_taken : length c.moves.codes ≡ 225 → refusal_by c m ≡ 0
      → Keeps (held_after c.game held count m) (count + 1) (takes c m).client
  unfolding held_after
  same_taken whole z =
      let room = (take_none c.game (size_of c.moves) m z).room in
      let fits : count < length held = omega (arith, keeps.size) in
      let n = keeps.size in
      rw (eq-eqb (held_refusal c.game (length held) count m) 0 (same-refusal ∙ z), taken-grows c m z)
      (record {
        list = ap (λ (k : ℕ). take k (set held count m.code)) (add-one count)
            ∙ take-suc-set held count m.code fits
            ∙ ap (λ (s : List ℕ). s ++ (m.code ∷ [])) keeps.list
            ∙ sym (list-grown c.moves m.code whole room);
        size = omega (arith, size-grown c.moves m.code whole room);
      })

  -- refused: nothing changes in either
  pub same-refused : (refusal_by c m ≡ 0 → ⊥)
      → (held_after c.game held count m ≡ held) × ((takes c m).client ≡ c)
  unfolding held_after
  same-refused d = (
    rw (ne_eqb (held_refusal c.game (length held) count m) 0 (λ z. d (sym same-refusal ∙ z))),
    refused-changes-nothing c m d,
  )
