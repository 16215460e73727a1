-- Demand 3: in all eight views the verdicts are the same at the turned point, and the forbidden list is the turned list. Assumes nothing.
use mathlib.Core.Path.{◌≡◌, refl, sym, ap, ◌∙◌}
use mathlib.Core.Bool.{cond}
use mathlib.Core.List.{List}
use Prim.Native.Nat.{ℕ, zero, suc, ◌+◌, ◌≤◌, ◌<◌}
use native.Mathlib.Omega.{arith}
use native.Mathlib.Decide.{ℕ_discrete, dec_le}
use lib.Dec.{leb}
use lib.ListN.{length, get_or}
use lib.Seq.{ext_get_or}
use borrow.Author.Tests.{le-leb, lt-leb}
use Rattle.rules.specs.Numbers.{verdict_no}
use Rattle.rules.specs.Forbidden.{Ask, strict_with, nested_of, strict_of, plain_of, forbidden_list}
use Rattle.rules.specs.declared.Verdict.TheVariants.{None}
use Rattle.rules.specs.Views.{turn, undo, turn_cells, insert, turn_list}
use Rattle.rules.proofs.Lists.{length-tab, get_d-tab, pairs, pairs-skip, pairs-take, pairs-same, pairs-none}
use Rattle.rules.proofs.Lists.{insert-pairs, InOrder, listed}
use Rattle.rules.proofs.Listed.{kinds, list-pairs, list-order, list-names}
use Rattle.rules.proofs.Turns.{turn-lt, turn-undo, turn-home, undo-lt}
use Rattle.rules.proofs.Eight.{Turned, Blind, nested-blind, strict-with-blind, plain-blind}
use Rattle.rules.proofs.Changes.{empties-le}
use Rattle.rules.proofs.Fuel.{Nests, nested-deep, strict-nests}

-- ---- the turned board

pub turned-cells : (v : ℕ) (cells : List ℕ) → v < 8 → length cells ≡ 225 → Turned v cells (turn_cells v cells)
unfolding turn_cells
turned-cells v cells hv l =
    record {
      len_a = l;
      len_b = length-tab 225 (λ q. get_or cells (turn (undo v) q) 0);
      same =
          λ p hp.
          get_d-tab 225 (λ q. get_or cells (turn (undo v) q) 0) (turn v p) (turn-lt v p hv hp)
          ∙ ap (λ (x : ℕ). get_or cells x 0) (turn-undo v p hv hp);
    }

-- "and nothing else": a board is turned in one way
pub turned-one : {v : ℕ} {A B : List ℕ} → v < 8 → Turned v A B → B ≡ turn_cells v A
turned-one {v} {A} {B} hv t =
    let c = turned-cells v A hv t.len_a in
    ext_get_or 0 B (turn_cells v A) (t.len_b ∙ sym c.len_b)
    (λ q hq.
    let l : q < 225 = omega (arith, t.len_b) in
    let p = turn (undo v) q in
    let hp : p < 225 = turn-lt (undo v) q (undo-lt v hv) l in
    let e : turn v p ≡ q = turn-home v q hv l in
    ap (λ (x : ℕ). get_or B x 0) (sym e) ∙ t.same p hp ∙ sym (c.same p hp) ∙ ap (λ (x : ℕ). get_or (turn_cells v A) x 0) e)

-- ---- THE VERDICTS, strict and plain

-- a question that asks itself does not see the view where one step of it does not
pub nested-view : {A : Type 0} (rest : A) (step : Ask A → Ask A) → Nests rest step → ((ask : Ask A) → Blind ask → Blind (step ask))
    → Blind (nested_of rest step)
nested-view rest step nests each v A B p hv t hp =
    nested-deep rest step nests 225 B (turn v p) t.len_b (turn-lt v p hv hp) (omega (arith, empties-le B, t.len_b))
    ∙ nested-blind rest step each 225 v A B p hv t hp
    ∙ sym (nested-deep rest step nests 225 A p t.len_a hp (omega (arith, empties-le A, t.len_a)))

strict_of-blind : Blind strict_of
unfolding strict_of
strict_of-blind = nested-view None strict_with strict-nests strict-with-blind

pub strict-view : (v : ℕ) (cells : List ℕ) (p : ℕ) → v < 8 → length cells ≡ 225 → p < 225
    → strict_of (turn_cells v cells) (turn v p) ≡ strict_of cells p
strict-view v cells p hv l hp = strict_of-blind v cells (turn_cells v cells) p hv (turned-cells v cells hv l) hp

pub plain-view : (v : ℕ) (cells : List ℕ) (p : ℕ) → v < 8 → length cells ≡ 225 → p < 225
    → plain_of (turn_cells v cells) (turn v p) ≡ plain_of cells p
unfolding plain_of
plain-view v cells p hv l hp = plain-blind strict_of strict_of-blind v cells (turn_cells v cells) p hv (turned-cells v cells hv l) hp

-- ---- the turned list

module _ (v : ℕ) (hv : v < 8) (kind : ℕ → ℕ) where
  -- the kinds of the points from p on, at the turned points
  later : ℕ → ℕ → ℕ
  later p q = cond (leb p (turn (undo v) q)) (kind (turn (undo v) q)) 0

  later-in : (p q : ℕ) → p ≤ turn (undo v) q → later p q ≡ kind (turn (undo v) q)
  unfolding later
  later-in p q h = rw (le-leb p (turn (undo v) q) h)

  later-out : (p q : ℕ) → turn (undo v) q < p → later p q ≡ 0
  unfolding later
  later-out p q h = rw (lt-leb p (turn (undo v) q) h)

  later-next : (p r : ℕ) → r < 225 → (r ≡ turn v p → ⊥) → later p r ≡ later (suc p) r
  later-next p r hr ne = at (dec_le p (turn (undo v) r))
    where
      at : Dec (p ≤ turn (undo v) r) → later p r ≡ later (suc p) r
      at (yes h) =
          let d : turn (undo v) r ≡ p → ⊥ = λ e. ne (sym (turn-home v r hv hr) ∙ ap (turn v) e) in
          later-in p r h ∙ sym (later-in (suc p) r (omega arith))
      at (no h) = later-out p r (omega arith) ∙ sym (later-out (suc p) r (omega arith))

  turn-from : (p n : ℕ) → p + n ≡ 225 → turn_list v (pairs kind p n) ≡ pairs (later p) 0 225
  unfolding turn_list
  turn-from p zero e =
      ap (turn_list v) (pairs-none kind p 0 (λ r x y. absurd (omega arith)))
      ∙ sym (pairs-none (later p) 0 225 (λ r x y. later-out p r (let b = turn-lt (undo v) r (undo-lt v hv) (omega arith) in omega arith)))
  turn-from p (suc n) e = at (ℕ_discrete (kind p) 0) (turn-from (suc p) n (omega arith))
    where
      hp : p < 225
      hp = omega arith

      here : later p (turn v p) ≡ kind p
      here = later-in p (turn v p) (omega (arith, turn-undo v p hv hp)) ∙ ap kind (turn-undo v p hv hp)

      gone : later (suc p) (turn v p) ≡ 0
      gone = later-out (suc p) (turn v p) (omega (arith, turn-undo v p hv hp))

      at : Dec (kind p ≡ 0) → turn_list v (pairs kind (suc p) n) ≡ pairs (later (suc p)) 0 225
          → turn_list v (pairs kind p (suc n)) ≡ pairs (later p) 0 225
      at (yes z) ih =
          ap (turn_list v) (pairs-skip kind p n z) ∙ ih
          ∙ pairs-same (later (suc p)) (later p) 0 225 (λ r x y. each r (omega arith) (ℕ_discrete r (turn v p)))
        where
          each : (r : ℕ) → r < 225 → Dec (r ≡ turn v p) → later (suc p) r ≡ later p r
          each r hr (yes q) = ap (later (suc p)) q ∙ gone ∙ sym z ∙ sym here ∙ ap (later p) (sym q)
          each r hr (no q) = sym (later-next p r hr q)
      at (no z) ih =
          ap (turn_list v) (pairs-take kind p n z)
          ∙ ap (insert (kind p) (turn v p)) ih
          ∙ insert-pairs (kind p) (turn v p) (later (suc p)) (later p) z gone here (later-next p) 0 225 refl (omega arith)
          (omega (arith, turn-lt v p hv hp))

-- a list of kinds by code, turned, has at each turned point the kind of the point
pub pairs-view : (v : ℕ) (kind : ℕ → ℕ) → v < 8 → turn_list v (pairs kind 0 225) ≡ pairs (λ q. kind (turn (undo v) q)) 0 225
pairs-view v kind hv =
    turn-from v hv kind 0 225 refl
    ∙ pairs-same (later v hv kind 0) (λ q. kind (turn (undo v) q)) 0 225 (λ q x y. later-in v hv kind 0 q (omega arith))

-- THE LIST: the list of the turned board is the turned list
pub list-view : (v : ℕ) (cells : List ℕ) → v < 8 → length cells ≡ 225 → forbidden_list (turn_cells v cells) ≡ turn_list v (forbidden_list cells)
list-view v cells hv l =
    list-pairs (turn_cells v cells)
    ∙ pairs-same (kinds (turn_cells v cells)) (λ q. kinds cells (turn (undo v) q)) 0 225
    (λ q x y.
    let hq : q < 225 = omega arith in
    ap (kinds (turn_cells v cells)) (sym (turn-home v q hv hq))
    ∙ ap verdict_no (strict-view v cells (turn (undo v) q) hv l (turn-lt (undo v) q (undo-lt v hv) hq)))
    ∙ sym (pairs-view v (kinds cells) hv)
    ∙ ap (turn_list v) (sym (list-pairs cells))

-- so the turned list, too, names each turned point once with its kind, in code order
pub turned-order : (v : ℕ) (cells : List ℕ) → v < 8 → length cells ≡ 225 → InOrder 0 (turn_list v (forbidden_list cells))
turned-order v cells hv l = rw (sym (list-view v cells hv l)) (list-order (turn_cells v cells))

pub turned-names : (v : ℕ) (cells : List ℕ) (p : ℕ) → v < 8 → length cells ≡ 225 → p < 225
    → listed (turn_list v (forbidden_list cells)) (turn v p) ≡ listed (forbidden_list cells) p
turned-names v cells p hv l hp =
    ap (λ (x : List ℕ). listed x (turn v p)) (sym (list-view v cells hv l))
    ∙ list-names (turn_cells v cells) (turn v p) (turn-lt v p hv hp)
    ∙ ap verdict_no (strict-view v cells p hv l hp)
    ∙ sym (list-names cells p hp)
