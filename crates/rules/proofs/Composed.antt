-- One view after another (document 02, No. 9): which view that is, and what follows of whatever is turned: points, cells, lists. Assumes
-- nothing.
use mathlib.Core.Path.{◌≡◌, sym, subst, ap, ◌∙◌}
use mathlib.Core.List.{List}
use Prim.Native.Nat.{ℕ, ◌<◌}
use native.Mathlib.Omega.{arith}
use lib.Dec.{T, eqb, ltb, eqb→eq, ltb→lt}
use lib.ListN.{length, get_or}
use borrow.Author.Tests.{eq-eqb}
use Rattle.rules.specs.Tools.{all_below, tab}
use Rattle.rules.specs.Grid.{first_of}
use Rattle.rules.specs.Forbidden.{forbidden_list}
use Rattle.rules.specs.Views.{turn, undo, turn_cells, turn_list, is_then, then_view, then_row}
use Rattle.rules.proofs.Logic.{true-T, implies, implied, all-elim, all2}
use Rattle.rules.proofs.Numbered.{first_on}
use Rattle.rules.proofs.Lists.{length-tab, get_d-tab, tab-cong, is-tab, pairs, pairs-same}
use Rattle.rules.proofs.Listed.{kinds, list-pairs}
use Rattle.rules.proofs.Turns.{undo-lt, turn-lt, turn-undo, turn-home}
use Rattle.rules.proofs.Views.{pairs-view}

-- ---- the table of 64, one computed test: each entry is the view that sends every point where the two send it

pub then-table : (v w : ℕ) → v < 8 → w < 8 → then_view v w ≡ get_or (then_row v) w 0
unfolding all_below then_view is_then first_of turn then_row
then-table v w hv hw =
    eqb→eq (then_view v w) (get_or (then_row v) w 0) (all2 8 8 (λ v w. eqb (then_view v w) (get_or (then_row v) w 0)) tt v w hv hw)

pub then-lt : (v w : ℕ) → v < 8 → w < 8 → then_view v w < 8
unfolding all_below then_row
then-lt v w hv hw =
    subst (λ (u : ℕ). u < 8) (sym (then-table v w hv hw))
    (ltb→lt (get_or (then_row v) w 0) 8 (all2 8 8 (λ v w. ltb (get_or (then_row v) w 0) 8) tt v w hv hw))

-- A POINT turned by the first and then by the second is turned by `then_view`
pub then-turn : (v w p : ℕ) → v < 8 → w < 8 → p < 225 → turn w (turn v p) ≡ turn (then_view v w) p
unfolding is_then then_view
then-turn v w p hv hw hp =
    let found : T (is_then v w (then_view v w)) = first_on (is_then v w) 8 0 (omega (arith, then-lt v w hv hw)) in
    sym (eqb→eq (turn (then_view v w) p) (turn w (turn v p))
    (all-elim 225 (λ p. eqb (turn (then_view v w) p) (turn w (turn v p))) found p hp))

-- ---- two views that send each point alike are one view: A2 alone tells them apart

pub one-view : (u v : ℕ) → u < 8 → v < 8 → ((p : ℕ) → p < 225 → turn u p ≡ turn v p) → u ≡ v
unfolding all_below turn
one-view u v hu hv same =
    eqb→eq u v
    (implied (eqb (turn u 1) (turn v 1)) (eqb u v) (all2 8 8 (λ u v. implies (eqb (turn u 1) (turn v 1)) (eqb u v)) tt u v hu hv)
    (true-T (eq-eqb (turn u 1) (turn v 1) (same 1 (omega arith)))))

-- so no other view does
pub then-only : (u v w : ℕ) → u < 8 → v < 8 → w < 8 → ((p : ℕ) → p < 225 → turn u p ≡ turn w (turn v p)) → u ≡ then_view v w
then-only u v w hu hv hw same = one-view u (then_view v w) hu (then-lt v w hv hw) (λ p hp. same p hp ∙ then-turn v w p hv hw hp)

-- ---- the views among themselves

-- view 0 sends each point to itself
pub turn-still : (p : ℕ) → turn 0 p ≡ p
unfolding turn
turn-still p = omega arith

-- "Grouping three turns either way gives the same view"
pub then-group : (u v w : ℕ) → u < 8 → v < 8 → w < 8 → then_view (then_view u v) w ≡ then_view u (then_view v w)
then-group u v w hu hv hw =
    let huv = then-lt u v hu hv in
    let hvw = then-lt v w hv hw in
    then-only (then_view (then_view u v) w) u (then_view v w) (then-lt (then_view u v) w huv hw) hu hvw
    (λ p hp.
    sym (then-turn (then_view u v) w p huv hw hp)
    ∙ ap (turn w) (sym (then-turn u v p hu hv hp))
    ∙ then-turn v w (turn u p) hv hw (turn-lt u p hu hp))

-- "0 changes nothing", before a view and after it
pub then-after-still : (v : ℕ) → v < 8 → then_view 0 v ≡ v
then-after-still v hv = sym (then-only v 0 v hv (omega arith) hv (λ p hp. ap (turn v) (sym (turn-still p))))

pub then-still : (v : ℕ) → v < 8 → then_view v 0 ≡ v
then-still v hv = sym (then-only v v 0 hv hv (omega arith) (λ p hp. sym (turn-still (turn v p))))

-- "each view followed by its return is 0", and its return followed by it
pub then-back : (v : ℕ) → v < 8 → then_view v (undo v) ≡ 0
then-back v hv =
    sym (then-only 0 v (undo v) (omega arith) hv (undo-lt v hv) (λ p hp. turn-still p ∙ sym (turn-undo v p hv hp)))

pub back-then : (v : ℕ) → v < 8 → then_view (undo v) v ≡ 0
back-then v hv =
    sym (then-only 0 (undo v) v (omega arith) (undo-lt v hv) hv (λ p hp. turn-still p ∙ sym (turn-home v p hv hp)))

-- two turns are taken back by the returns in the other order
pub turn-returns : (v w p : ℕ) → v < 8 → w < 8 → p < 225 → turn (undo v) (turn (undo w) p) ≡ turn (undo (then_view v w)) p
turn-returns v w p hv hw hp =
    let hr = turn-lt (undo w) p (undo-lt w hw) hp in
    let q = turn (undo v) (turn (undo w) p) in
    let hq : q < 225 = turn-lt (undo v) (turn (undo w) p) (undo-lt v hv) hr in
    let there : turn (then_view v w) q ≡ p =
    sym (then-turn v w q hv hw hq) ∙ ap (turn w) (turn-home v (turn (undo w) p) hv hr) ∙ turn-home w p hw hp in
    sym (turn-undo (then_view v w) q (then-lt v w hv hw) hq) ∙ ap (turn (undo (then_view v w))) there

pub back-of-then : (v w : ℕ) → v < 8 → w < 8 → undo (then_view v w) ≡ then_view (undo w) (undo v)
back-of-then v w hv hw =
    then-only (undo (then_view v w)) (undo w) (undo v) (undo-lt (then_view v w) (then-lt v w hv hw)) (undo-lt w hw) (undo-lt v hv)
    (λ p hp. sym (turn-returns v w p hv hw hp))

-- ---- whatever is turned: one turn after another is one turn, and view 0 leaves all as it is

pub record Viewable {X : Type 0} (Good : X → Type 0) (act : ℕ → X → X) : Type 0 where
  pub stays : (v : ℕ) (x : X) → v < 8 → Good x → Good (act v x)
  pub after : (v w : ℕ) (x : X) → v < 8 → w < 8 → Good x → act w (act v x) ≡ act (then_view v w) x
  pub still : (x : X) → Good x → act 0 x ≡ x

-- what follows, once for all that is turned
module _ {X : Type 0} {Good : X → Type 0} {act : ℕ → X → X} (turns : Viewable Good act) where
  -- three turns, grouped either way
  pub three-turns : (u v w : ℕ) (x : X) → u < 8 → v < 8 → w < 8 → Good x
      → (act w (act v (act u x)) ≡ act (then_view (then_view u v) w) x) × (act w (act v (act u x)) ≡ act (then_view u (then_view v w)) x)
  three-turns u v w x hu hv hw good =
      let one : act w (act v (act u x)) ≡ act (then_view (then_view u v) w) x =
      ap (act w) (turns.after u v x hu hv good) ∙ turns.after (then_view u v) w x (then-lt u v hu hv) hw good in
      (one, one ∙ ap (λ (t : ℕ). act t x) (then-group u v w hu hv hw))

  -- view 0 before a view, and after it
  pub still-first : (v : ℕ) (x : X) → v < 8 → Good x → act v (act 0 x) ≡ act v x
  still-first v x hv good = ap (act v) (turns.still x good)

  pub still-second : (v : ℕ) (x : X) → v < 8 → Good x → act 0 (act v x) ≡ act v x
  still-second v x hv good = turns.still (act v x) (turns.stays v x hv good)

  -- a view and its return, and the return and its view
  pub returned : (v : ℕ) (x : X) → v < 8 → Good x → act (undo v) (act v x) ≡ x
  returned v x hv good =
      turns.after v (undo v) x hv (undo-lt v hv) good ∙ ap (λ (t : ℕ). act t x) (then-back v hv) ∙ turns.still x good

  pub gone-again : (v : ℕ) (x : X) → v < 8 → Good x → act v (act (undo v) x) ≡ x
  gone-again v x hv good =
      turns.after (undo v) v x (undo-lt v hv) hv good ∙ ap (λ (t : ℕ). act t x) (back-then v hv) ∙ turns.still x good

-- ---- points, cells and lists are such

pub points-turn : Viewable (λ p. p < 225) turn
points-turn =
    record {
      stays = λ v p hv hp. turn-lt v p hv hp;
      after = λ v w p hv hw hp. then-turn v w p hv hw hp;
      still = λ p hp. turn-still p;
    }

pub cells-turn : Viewable (λ (cells : List ℕ). length cells ≡ 225) turn_cells
unfolding turn_cells undo
cells-turn =
    record {
      stays = λ v cells hv l. length-tab 225 (λ q. get_or cells (turn (undo v) q) 0);
      after = λ v w cells hv hw l.
          tab-cong 225 (λ q. get_or (tab 225 (λ q. get_or cells (turn (undo v) q) 0)) (turn (undo w) q) 0)
          (λ q. get_or cells (turn (undo (then_view v w)) q) 0)
          (λ q hq.
          get_d-tab 225 (λ q. get_or cells (turn (undo v) q) 0) (turn (undo w) q) (turn-lt (undo w) q (undo-lt w hw) hq)
          ∙ ap (λ (p : ℕ). get_or cells p 0) (turn-returns v w q hv hw hq));
      still = λ cells l.
          sym (is-tab cells 225 (λ q. get_or cells (turn 0 q) 0) l (λ q hq. ap (λ (p : ℕ). get_or cells p 0) (sym (turn-still q))));
    }

-- a list of points with their kinds, in code order; each forbidden list is one
abbrev pub KindList : List ℕ → Type 0
KindList l = (kind : ℕ → ℕ) × (l ≡ pairs kind 0 225)

pub forbidden-kinds : (cells : List ℕ) → KindList (forbidden_list cells)
forbidden-kinds cells = (kinds cells, list-pairs cells)

pub lists-turn : Viewable KindList turn_list
unfolding undo
lists-turn =
    record {
      stays = λ v l hv k. ((λ q. k.0 (turn (undo v) q)), ap (turn_list v) k.1 ∙ pairs-view v k.0 hv);
      after = λ v w l hv hw k.
          let kind = k.0 in
          let back : ℕ → ℕ → ℕ = λ v q. turn (undo v) q in
          ap (λ (x : List ℕ). turn_list w (turn_list v x)) k.1
          ∙ ap (turn_list w) (pairs-view v kind hv)
          ∙ pairs-view w (λ q. kind (back v q)) hw
          ∙ pairs-same (λ q. kind (back v (back w q))) (λ q. kind (back (then_view v w) q)) 0 225
          (λ q x y. ap kind (turn-returns v w q hv hw (omega arith)))
          ∙ sym (pairs-view (then_view v w) kind (then-lt v w hv hw))
          ∙ ap (turn_list (then_view v w)) (sym k.1);
      still = λ l k.
          ap (turn_list 0) k.1
          ∙ pairs-view 0 k.0 (omega arith)
          ∙ pairs-same (λ q. k.0 (turn 0 q)) k.0 0 225 (λ q x y. ap k.0 (turn-still q))
          ∙ sym k.1;
    }
