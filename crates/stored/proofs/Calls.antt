-- The same of calls, by their contracts: what one call answers and leaves in its lent buffer, handed to the next, goes through unchanged, so
-- that the next refuses nothing but too short a buffer. `f.Post κs asked r after` is what the contract of f ensures: asked this, it may
-- answer r and leave its parameters as `after` says. Assumes nothing.
use mathlib.Core.Path.{◌≡◌, ap, ap₂, sym, ◌∙◌}
use mathlib.Core.Bool.{true, false}
use mathlib.Core.Logic.{◌⊎◌, inl, inr}
use mathlib.Core.List.{List}
use Prim.Native.Nat.{ℕ, ◌/◌}
use native.Mathlib.Omega.{arith}
use lib.Dec.{eqb}
use lib.ListN.{length, take, drop}
use lib.Seq.{take_at}
use borrow.Author.Tests.{eqb-true}
use contract.Lifetimes.{Lfts}
use denote.Ref.{Bor}
use denote.MutBor.{MutBor}
use Rattle.rules.specs.Refusals.{no_room, unless}
use Rattle.std.specs.Prelude.{Result, Ok, Err}
use Rattle.rules.specs.Answers.{answer, refusal_named}
use Rattle.rules.specs.declared.refusal.Refusal.{Refusal}
use Rattle.rules.proofs.Logic.{decide}
use Rattle.rules.proofs.Refusals.{first-none}
use Rattle.lent.specs.Lists.{fits, laid, list_refusal, list_out, counted}
use Rattle.cells.specs.Cells.{moves_refusal}
use Rattle.stored.specs.Records.{record_of, stored_view, stored_moves, record_refusal, back_refusal, tagged_refusal}
use Rattle.stored.proofs.Records.{tagged-old}
use Rattle.stored.proofs.RoundTrip.{AreBytes, written_read, old-new-old, new-old-new}
use Rattle.stored.proofs.front.to_tagged.Reads as to-tagged
use Rattle.stored.proofs.front.old_to_tagged.Reads as old-to-tagged
use Rattle.stored.proofs.front.from_tagged.Reads as from-tagged
use Rattle.stored.proofs.front.tagged_view.Reads as tagged-view

-- ---- what is claimed

-- a call gave a count n, and the first n bytes of its buffer after it are these; a call gave some answer
abbrev pub Gave : {S : Type 0} → (Result ℕ Refusal → S → Type 0) → (S → MutBor (List ℕ)) → ℕ → List ℕ → Type 0
Gave {S} post lent n front = (after : S) × post (Ok n) after × (front ≡ take n (lent after).now)

abbrev pub Answered : {R S : Type 0} → (R → S → Type 0) → R → Type 0
Answered {S = S} post r = (after : S) × post r after

-- Where one call gave a count, and the next is handed the bytes that it left, the next gives the list a, and refuses only 13.
abbrev pub GoesThrough : {S S' : Type 0} → (Result ℕ Refusal → S → Type 0) → (S → MutBor (List ℕ)) → List ℕ → (Result ℕ Refusal → S' → Type 0)
    → (S' → MutBor (List ℕ)) → List ℕ → List ℕ → Type 0
GoesThrough {S' = S'} one lent handed next lent' out a =
    (n : ℕ) (r : Result ℕ Refusal) (after : S') → Gave one lent n handed → next r after
    → (r ≡ counted 1 0 out a) × ((lent' after).now ≡ list_out 0 out a)

-- ---- a list that was given back: nothing was refused, and it stands in front

none : (told : ℕ) (out a : List ℕ) {n : ℕ} {out' : List ℕ} → list_refusal told out a ≡ 0 → ◌≡◌ {A = Result ℕ Refusal} (Ok n) (Ok (length a / 1))
    → out' ≡ laid out a → (told ≡ 0) × (take n out' ≡ a)
unfolding list_refusal laid
none told out a {n} {out'} e is o =
    let same : n ≡ length a / 1 = cc in (
      (first-none told (unless (fits out a) no_room) e).0,
      ap (take n) o ∙ take_at a (drop (length a) out) n (omega arith),
    )

given_back : (told : ℕ) (out a : List ℕ) {n : ℕ} {out' : List ℕ}
    → (Ok n ≡ counted 1 told out a) × (out' ≡ list_out told out a) → (told ≡ 0) × (take n out' ≡ a)
unfolding counted answer list_out
given_back told out a {n} {out'} h = go (decide (eqb (list_refusal told out a) 0))
  where
    go : (eqb (list_refusal told out a) 0 ≡ true) ⊎ (eqb (list_refusal told out a) 0 ≡ false) → (told ≡ 0) × (take n out' ≡ a)
    go (inl t) = none told out a (eqb-true (list_refusal told out a) 0 t) (rw t at h.0) (rw t at h.1)
    go (inr t) =
        let e : Ok n ≡ Err (refusal_named (list_refusal told out a)) = rw t at h.0 in
        cc

-- .. and the next call, handed what is a record or moves that it does not refuse, and whose list is a
through : {told : ℕ} {a list : List ℕ} (out : List ℕ) {r : Result ℕ Refusal} {out' : List ℕ} → told ≡ 0 → a ≡ list
    → (r ≡ counted 1 told out a) × (out' ≡ list_out told out a) → (r ≡ counted 1 0 out list) × (out' ≡ list_out 0 out list)
through out e l h = (
  h.0 ∙ ap₂ (λ (n : ℕ) (x : List ℕ). counted 1 n out x) e l,
  h.1 ∙ ap₂ (λ (n : ℕ) (x : List ℕ). list_out n out x) e l,
)

-- ---- two calls

-- what is handed over is the record of moves that are not refused: they are taken back
taken_back : (moves bytes out : List ℕ) {r : Result ℕ Refusal} {out' : List ℕ} → moves_refusal moves ≡ 0 → bytes ≡ record_of 0 moves
    → (r ≡ counted 1 (back_refusal bytes) out (stored_moves bytes)) × (out' ≡ list_out (back_refusal bytes) out (stored_moves bytes))
    → (r ≡ counted 1 0 out moves) × (out' ≡ list_out 0 out moves)
taken_back moves bytes out told is next =
    let (free, back) = old-new-old moves told in
    through out (ap back_refusal is ∙ free) (ap stored_moves is ∙ back) next

module _ (κs κs' : Lfts 2) (out out' : MutBor (List ℕ)) where
  -- Old to new to old gives the same bytes.
  pub old-new-old-called : (moves bytes : Bor (List ℕ)) → GoesThrough
      (old-to-tagged.Post κs (moves, (out, tt))) (λ s. s.1.0) bytes.now
      (from-tagged.Post κs' (bytes, (out', tt))) (λ s. s.1.0) out'.now moves.now
  old-new-old-called moves bytes n r s' (s, one, handed) next =
      let (told, front) = given_back (moves_refusal moves.now) out.now (record_of 0 moves.now) one in
      taken_back moves.now bytes.now out'.now told (handed ∙ front) next

  -- .. and so does the general writer in view 0, which is the one that Rust and C call
  pub old-new-old-viewed : (moves bytes : Bor (List ℕ)) → GoesThrough
      (to-tagged.Post κs (moves, (0, (out, tt)))) (λ s. s.1.1.0) bytes.now
      (from-tagged.Post κs' (bytes, (out', tt))) (λ s. s.1.0) out'.now moves.now
  old-new-old-viewed moves bytes n r s' (s, one, handed) next =
      let (told, front) = given_back (tagged_refusal 0 moves.now) out.now (record_of 0 moves.now) one in
      taken_back moves.now bytes.now out'.now (sym (tagged-old moves.now) ∙ told) (handed ∙ front) next

  -- what a record that is taken back gives: moves that are not refused, whose record it is
  new-old : (bytes : Bor (List ℕ)) (moves : List ℕ) → AreBytes bytes.now → (n : ℕ)
      → Gave (from-tagged.Post κs (bytes, (out, tt))) (λ s. s.1.0) n moves
      → (moves_refusal moves ≡ 0) × (record_of 0 moves ≡ bytes.now)
  new-old bytes moves bs n (s, one, handed) =
      let (told, front) = given_back (back_refusal bytes.now) out.now (stored_moves bytes.now) one in
      let is = handed ∙ front in
      let (free, back) = new-old-new bytes.now bs told in
      (ap moves_refusal is ∙ free, ap (record_of 0) is ∙ back)

  -- New to old to new gives the same bytes; a record that is taken back has view 0.
  pub new-old-new-called : (bytes moves : Bor (List ℕ)) → AreBytes bytes.now → GoesThrough
      (from-tagged.Post κs (bytes, (out, tt))) (λ s. s.1.0) moves.now
      (old-to-tagged.Post κs' (moves, (out', tt))) (λ s. s.1.0) out'.now bytes.now
  new-old-new-called bytes moves bs n r s' gave next =
      let (free, back) = new-old bytes moves.now bs n gave in
      through out'.now free back next

  -- .. and so does the general writer in view 0
  pub new-old-new-viewed : (bytes moves : Bor (List ℕ)) → AreBytes bytes.now → GoesThrough
      (from-tagged.Post κs (bytes, (out, tt))) (λ s. s.1.0) moves.now
      (to-tagged.Post κs' (moves, (0, (out', tt)))) (λ s. s.1.1.0) out'.now bytes.now
  new-old-new-viewed bytes moves bs n r s' gave next =
      let (free, back) = new-old bytes moves.now bs n gave in
      through out'.now (tagged-old moves.now ∙ free) back next

-- What the general writer writes has the view that it was handed.
pub written-view-called : (κs : Lfts 2) (κ : Lfts 1) (moves bytes : Bor (List ℕ)) (out : MutBor (List ℕ)) (view n : ℕ) (r : Result ℕ Refusal)
    → Gave (to-tagged.Post κs (moves, (view, (out, tt)))) (λ s. s.1.1.0) n bytes.now
    → Answered (tagged-view.Post κ (bytes, tt)) r → r ≡ Ok view
unfolding answer
written-view-called κs κ moves bytes out view n r (s, one, handed) (s', next) =
    let (told, front) = given_back (tagged_refusal view moves.now) out.now (record_of view moves.now) one in
    let is = handed ∙ front in
    let (free, same, _) = written_read view moves.now told in
    next ∙ rw (ap record_refusal is ∙ free) (ap Ok (ap stored_view is ∙ same))
