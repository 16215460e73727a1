-- Cells turned by one view and then by another, and turned back (document 02, No. 9), and the canonical form of both, of the calls: the
-- bytes that one call left, handed to the next. `f.Post κs asked r after` is what the contract of f ensures: asked this, it may answer r
-- and leave its parameters as `after` says. Assumes nothing.
use mathlib.Core.Path.{◌≡◌, ap, ap₂, sym, ◌∙◌}
use mathlib.Core.Bool.{true, false}
use mathlib.Core.Logic.{◌⊎◌, inl, inr}
use mathlib.Core.List.{List}
use Prim.Native.Nat.{ℕ, ◌*◌, ◌<◌}
use native.Mathlib.Omega.{arith}
use lib.Dec.{eqb}
use lib.ListN.{length, take, drop}
use lib.Seq.{take_at}
use borrow.Author.Tests.{eqb-true, eqb-false}
use contract.Lifetimes.{Lfts}
use denote.Ref.{Bor}
use denote.MutBor.{MutBor}
use Rattle.rules.specs.Refusals.{no_room, unless, first, view_refusal}
use Rattle.rules.specs.Views.{turn_cells, undo, then_view}
use Rattle.std.specs.Prelude.{Ok}
use Rattle.rules.specs.Answers.{answer}
use Rattle.rules.proofs.Logic.{decide}
use Rattle.rules.proofs.Refusals.{first-none, none_first}
use Rattle.rules.proofs.Turns.{undo-lt}
use Rattle.rules.proofs.Composed.{returned, cells-turn}
use Rattle.lent.specs.Lists.{fits, laid, list_refusal, list_out}
use Rattle.point.proofs.Refused.{view_in}
use Rattle.point.proofs.Followed.{Gave, Followed, view-pass}
use Rattle.point.proofs.Followed as point-then
use Rattle.cells.specs.Cells.{Cells, cells_refusal}
use Rattle.cells.proofs.Given.{cells_in, cells-pass, turn-ok, length-turned}
use Rattle.canonical.specs.Canonical.{canonical_cells}
use Rattle.canonical.proofs.Eight.{canonical-same}
use Rattle.renju.specs.Answers.{word, list_word}
use Rattle.renju.proofs.canonical_form.renju_canonical.Reads as renju-canonical
use Rattle.renju.proofs.changes.renju_turn.Reads as renju-turn
use Rattle.renju.proofs.views.renju_view_then.Reads as renju-view-then
use Rattle.renju.proofs.views.renju_view_back.Reads as renju-view-back

-- ---- a word below 65,536 is an answer

given_word : (refused n r : ℕ) → r < 65536 → r ≡ word refused n → (refused ≡ 0) × (r ≡ n)
unfolding word
given_word refused n r small e = go (decide (eqb refused 0))
  where
    go : (eqb refused 0 ≡ true) ⊎ (eqb refused 0 ≡ false) → (refused ≡ 0) × (r ≡ n)
    go (inl t) = (eqb-true refused 0 t, rw t at e)
    go (inr t) =
        let over : r ≡ refused * 65536 = rw t at e in
        let some : (refused ≡ 0 → ⊥) = eqb-false refused 0 t in
        absurd (omega arith)

-- .. and with it a list stands in front of the lent bytes
given-list : (refused : ℕ) (out a : List ℕ) (r : ℕ) (out' : List ℕ) → r < 65536
    → (r ≡ list_word 1 refused out a) × (out' ≡ list_out refused out a) → (refused ≡ 0) × (take (length a) out' ≡ a)
unfolding list_word list_out laid list_refusal
given-list refused out a r out' small h =
    let none = (given_word (list_refusal refused out a) _ r small h.0).0 in (
      (first-none refused (unless (fits out a) no_room) none).0,
      ap (take (length a)) (h.1 ∙ rw none) ∙ take_at a (drop (length a) out) (length a) (omega arith),
    )

-- ---- views that were not refused: what `point` says of its own answer

answered : (refused n u : ℕ) → (refused ≡ 0) × (u ≡ n) → Ok u ≡ answer refused n
unfolding answer
answered refused n u (none, is) = rw (none, is)

then-given : (κ : Lfts 0) (v w u : ℕ) → u < 65536 → Gave (renju-view-then.Post κ (v, (w, tt))) u → Followed v w u
then-given κ v w u small (s, e) =
    let refused = first (view_refusal v) (view_refusal w) in
    point-then.then-given κ v w u (s, answered refused (then_view v w) u (given_word refused (then_view v w) u small e))

-- ---- the first call gave the turned cells, which the next is handed: a board's cells are told by 225 bytes

turned-list : (c out : List ℕ) (v : ℕ) {r : ℕ} {out' : List ℕ} → Cells c → v < 8
    → (r ≡ list_word 1 (first (cells_refusal c) (view_refusal v)) out (turn_cells v c))
    × (out' ≡ list_out (first (cells_refusal c) (view_refusal v)) out (turn_cells v c))
    → (r ≡ list_word 1 0 out (turn_cells v c)) × (out' ≡ list_out 0 out (turn_cells v c))
turned-list c out v ok hv h =
    let none = none_first (cells_refusal c) (view_refusal v) (cells-pass c ok) (view-pass v hv) in (
      h.0 ∙ ap (λ (n : ℕ). list_word 1 n out (turn_cells v c)) none,
      h.1 ∙ ap (λ (n : ℕ). list_out n out (turn_cells v c)) none,
    )

module _ (κs : Lfts 2) (κ : Lfts 0) (cells bytes : Bor (List ℕ)) (out out' : MutBor (List ℕ)) (v r : ℕ) (small : r < 65536)
    (sent : Gave (λ n s. renju-turn.Post κs (cells, (v, (out, tt))) n s × (bytes.now ≡ take 225 s.1.1.0.now)) r) where
  abbrev c : List ℕ
  c = cells.now

  passed : Cells c × (v < 8) × (bytes.now ≡ turn_cells v c)
  passed =
      let s = sent.0 in
      let (none, front) = given-list (first (cells_refusal c) (view_refusal v)) out.now (turn_cells v c) r s.1.1.0.now small sent.1.0 in
      let (h, hv) = first-none (cells_refusal c) (view_refusal v) none in
      (cells_in c h, view_in v hv, sent.1.1 ∙ ap (λ (n : ℕ). take n s.1.1.0.now) (sym (length-turned v c)) ∙ front)

  -- Turned by a view and then by the next, they are turned by what `renju_view_then` gives: the same word, the same bytes.
  pub cells-then : (w u n m : ℕ) → u < 65536 → Gave (renju-view-then.Post κ (v, (w, tt))) u
      → (two : Gave (renju-turn.Post κs (bytes, (w, (out', tt)))) n) (whole : Gave (renju-turn.Post κs (cells, (u, (out', tt)))) m)
      → (n ≡ m) × (two.0.1.1.0.now ≡ whole.0.1.1.0.now)
  cells-then w u n m tiny then (s, two) (t, whole) =
      let (ok, hv, is) = passed in
      let f = then-given κ v w u tiny then in
      let same : turn_cells w bytes.now ≡ turn_cells u c =
      ap (turn_cells w) is ∙ cells-turn.after v w c hv f.two ok.long ∙ ap (λ (x : ℕ). turn_cells x c) (sym f.is) in
      let ok' : Cells bytes.now = rw is (turn-ok v c ok) in
      let a = turned-list bytes.now out'.now w ok' f.two two in
      let b = turned-list c out'.now u ok f.whole whole in (
        a.0 ∙ ap (list_word 1 0 out'.now) same ∙ sym b.0,
        a.1 ∙ ap (list_out 0 out'.now) same ∙ sym b.1,
      )

  -- Turned by a view and then by what `renju_view_back` gives, they are the cells that they were.
  pub cells-back : (u n : ℕ) → u < 65536 → Gave (renju-view-back.Post κ (v, tt)) u
      → (two : Gave (renju-turn.Post κs (bytes, (u, (out', tt)))) n)
      → (n ≡ list_word 1 0 out'.now c) × (two.0.1.1.0.now ≡ list_out 0 out'.now c)
  cells-back u n tiny (t, back) (s, two) =
      let (ok, hv, is) = passed in
      let b = (given_word (view_refusal v) (undo v) u tiny back).1 in
      let same : turn_cells u bytes.now ≡ c = ap₂ turn_cells b is ∙ returned cells-turn v c hv ok.long in
      let ok' : Cells bytes.now = rw is (turn-ok v c ok) in
      let a = turned-list bytes.now out'.now u ok' (omega (arith, b, undo-lt v hv)) two in
      (a.0 ∙ ap (list_word 1 0 out'.now) same, a.1 ∙ ap (list_out 0 out'.now) same)

  -- Turned, they have the canonical form that they had: the same bytes. (The views differ.)
  pub cells-canonical : (n m : ℕ) (two : Gave (renju-canonical.Post κs (bytes, (out', tt))) n)
      (one : Gave (renju-canonical.Post κs (cells, (out', tt))) m) → two.0.1.0.now ≡ one.0.1.0.now
  cells-canonical n m (s, two) (t, one) =
      let (ok, hv, is) = passed in
      let ok' : Cells bytes.now = rw is (turn-ok v c ok) in
      let same : canonical_cells bytes.now ≡ canonical_cells c = ap canonical_cells is ∙ canonical-same c v ok.long hv in
      two.1 ∙ ap₂ (λ (x : ℕ) (y : List ℕ). list_out x out'.now y) (cells-pass bytes.now ok' ∙ sym (cells-pass c ok)) same ∙ sym one.1
