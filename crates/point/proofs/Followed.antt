-- One view after another (document 02, No. 9), of the calls: a point that is turned twice, and turned back. `f.Post κs asked r after` is what
-- the contract of f ensures: asked this, it may answer r and leave its parameters as `after` says. Assumes nothing.
use mathlib.Core.Path.{◌≡◌, refl, sym, ap, ap₂, ◌∙◌}
use Prim.Native.Nat.{ℕ, ◌<◌}
use native.Mathlib.Omega.{arith}
use lib.Dec.{ltb, lt→ltb}
use contract.Lifetimes.{Lfts}
use Rattle.rules.specs.Refusals.{first, code_refusal, view_refusal}
use Rattle.rules.specs.Answers.{answer}
use Rattle.rules.specs.Views.{turn, undo, then_view}
use Rattle.std.specs.Prelude.{Result, Ok}
use Rattle.rules.specs.declared.refusal.Refusal.{Refusal}
use Rattle.rules.proofs.Refusals.{first-none, none_first, pass, answered}
use Rattle.rules.proofs.Turns.{undo-lt, turn-lt}
use Rattle.rules.proofs.Composed.{then-lt, returned, points-turn}
use Rattle.point.proofs.Refused.{code_in, view_in}
use Rattle.point.proofs.view.turn_point.Reads as turn-point
use Rattle.point.proofs.view.view_then.Reads as view_then
use Rattle.point.proofs.view.view_back.Reads as view-back

-- a call may answer r
abbrev pub Gave : {R S : Type 0} → (R → S → Type 0) → R → Type 0
Gave {S = S} post r = (after : S) × post r after

-- a view, or two, that a call did not refuse
pub record Followed (v w u : ℕ) : Type 0 where
  pub is : u ≡ then_view v w
  pub one : v < 8
  pub two : w < 8
  pub whole : u < 8

pub then-given : (κs : Lfts 0) (v w u : ℕ) → Gave (view_then.Post κs (v, (w, tt))) (Ok u) → Followed v w u
then-given κs v w u (s, e) =
    let (none, is) = answered (first (view_refusal v) (view_refusal w)) (then_view v w) e refl in
    let (hv, hw) = first-none (view_refusal v) (view_refusal w) none in
    let one = view_in v hv in
    let two = view_in w hw in
    record { is = is; one = one; two = two; whole = omega (arith, is, then-lt v w one two) }

pub back-given : (κs : Lfts 0) (v u : ℕ) → Gave (view-back.Post κs (v, tt)) (Ok u) → (u ≡ undo v) × (v < 8) × (u < 8)
back-given κs v u (s, e) =
    let (none, is) = answered (view_refusal v) (undo v) e refl in
    let hv = view_in v none in
    (is, hv, omega (arith, is, undo-lt v hv))

pub view-pass : (v : ℕ) → v < 8 → view_refusal v ≡ 0
unfolding view_refusal
view-pass v hv = pass (ltb v 8) 12 (lt→ltb v 8 hv)

pub code-pass : (p : ℕ) → p < 225 → code_refusal p ≡ 0
unfolding code_refusal
code-pass p hp = pass (ltb p 225) 8 (lt→ltb p 225 hp)

-- ---- a point turned twice

-- what `turn_point` answers of a point in a view
turned-answer : (p v : ℕ) (r : Result ℕ Refusal) → p < 225 → v < 8 → r ≡ answer (first (code_refusal p) (view_refusal v)) (turn v p)
    → r ≡ Ok (turn v p)
unfolding answer
turned-answer p v r hp hv e = e ∙ rw (none_first (code_refusal p) (view_refusal v) (code-pass p hp) (view-pass v hv))

-- where `turn_point` gave a point
turned-given : (p v q : ℕ) → Ok q ≡ answer (first (code_refusal p) (view_refusal v)) (turn v p)
    → (q ≡ turn v p) × (p < 225) × (v < 8)
turned-given p v q e =
    let (none, is) = answered (first (code_refusal p) (view_refusal v)) (turn v p) e refl in
    let (hp, hv) = first-none (code_refusal p) (view_refusal v) none in
    (is, code_in p hp, view_in v hv)

module _ (κs : Lfts 0) (p v q u : ℕ) (sent : Gave (turn-point.Post κs (p, (v, tt))) (Ok q)) where
  -- Turned by a view and then by the next, it is turned by what `view_then` gives.
  pub point-then : (w : ℕ) (r r' : Result ℕ Refusal) → Gave (view_then.Post κs (v, (w, tt))) (Ok u)
      → Gave (turn-point.Post κs (q, (w, tt))) r → Gave (turn-point.Post κs (p, (u, tt))) r' → r ≡ r'
  point-then w r r' then (s, two) (s', whole) =
      let (is, hp, hv) = turned-given p v q sent.1 in
      let f = then-given κs v w u then in
      let hq : q < 225 = omega (arith, is, turn-lt v p hv hp) in
      let same : turn w q ≡ turn u p =
      ap (turn w) is ∙ points-turn.after v w p hv f.two hp ∙ ap (λ (t : ℕ). turn t p) (sym f.is) in
      turned-answer q w r hq f.two two ∙ ap Ok same ∙ sym (turned-answer p u r' hp f.whole whole)

  -- Turned by a view and then by what `view_back` gives, it is where it was.
  pub point-back : (r : Result ℕ Refusal) → Gave (view-back.Post κs (v, tt)) (Ok u) → Gave (turn-point.Post κs (q, (u, tt))) r
      → r ≡ Ok p
  point-back r back (s, two) =
      let (is, hp, hv) = turned-given p v q sent.1 in
      let (b, _, hu) = back-given κs v u back in
      let hq : q < 225 = omega (arith, is, turn-lt v p hv hp) in
      turned-answer q u r hq hu two ∙ ap Ok (ap₂ turn b is ∙ returned points-turn v p hv hp)
