-- The canonical form is a turn of the board by its view; no view gives less, and no smaller view gives the same; all eight views of a board
-- have the same. Assumes nothing.
use mathlib.Core.Path.{◌≡◌, refl, sym, ap, subst, ◌∙◌}
use mathlib.Core.Logic.{◌⊎◌, inl, inr}
use mathlib.Core.Bool.{Bool, true, false, not, cond}
use mathlib.Core.List.{List}
use Prim.Native.Nat.{ℕ, zero, suc, ◌+◌, ◌≤◌, ◌<◌}
use native.Mathlib.Omega.{arith}
use native.Mathlib.Numerals.{add-one}
use native.Mathlib.Decide.{ℕ_discrete}
use lib.ListN.{length}
use Rattle.rules.specs.Grid.{first_of}
use Rattle.rules.specs.Views.{turn_cells, undo, then_view}
use Rattle.rules.proofs.Logic.{T_true, true-T, no_true, false-not, not-false, not-not, decide, all-intro, all-fails}
use Rattle.rules.proofs.Turns.{undo-lt}
use Rattle.rules.proofs.Composed.{then-lt, returned, cells-turn}
use Rattle.canonical.specs.Canonical.{less, is_least, canonical_view, canonical_cells}
use Rattle.canonical.proofs.Ordered.{less-self, less-not, less-same, less-over}

-- ---- the first number that passes is known by those before it

first-is : (s : ℕ → Bool) (n j b : ℕ) → j ≤ b → b < j + n → s b ≡ true → ((i : ℕ) → i < b → s i ≡ false) → first_of s n j ≡ b
unfolding first_of
first-is s zero j b l h on off = absurd (omega arith)
first-is s (suc n) j b l h on off = go (ℕ_discrete j b) (λ k. first-is s n (suc j) b k (omega arith) on off)
  where
    go : Dec (j ≡ b) → (suc j ≤ b → first_of s n (suc j) ≡ b) → cond (s j) j (first_of s n (suc j)) ≡ b
    go (yes e) more = rw (ap s e ∙ on) e
    go (no e) more = rw (off j (omega (arith, e))) (more (omega (arith, e)))

-- ---- the least so far, as a loop keeps it

-- of the views below n: a later one only where its board is less
unfoldable pub least_of : List ℕ → ℕ → ℕ
least_of cells zero = 0
least_of cells (suc n) = cond (less (turn_cells n cells) (turn_cells (least_of cells n) cells)) n (least_of cells n)

-- one view more, where b is the least so far
module _ (cells : List ℕ) (b n : ℕ) (e : b ≡ least_of cells n) where
  more : least_of cells (n + 1) ≡ cond (less (turn_cells n cells) (turn_cells b cells)) n b
  unfolding least_of
  more =
      ap (least_of cells) (add-one n)
      ∙ ap (λ (v : ℕ). cond (less (turn_cells n cells) (turn_cells v cells)) n v) (sym e)

  pub least-taken : not (less (turn_cells n cells) (turn_cells b cells)) ≡ false → n ≡ least_of cells (n + 1)
  least-taken t =
      let on : less (turn_cells n cells) (turn_cells b cells) ≡ true =
      T_true (not-not (less (turn_cells n cells) (turn_cells b cells)) (λ s. no_true (sym t ∙ T_true s))) in
      sym (more ∙ rw on)

  pub least_kept : not (less (turn_cells n cells) (turn_cells b cells)) ≡ true → b ≡ least_of cells (n + 1)
  least_kept t =
      let off : less (turn_cells n cells) (turn_cells b cells) ≡ false = not-false (true-T t) in
      sym (more ∙ rw off)

pub least-none : (cells : List ℕ) → least_of cells 1 ≡ 0
unfolding least_of
least-none cells = go (less (turn_cells 0 cells) (turn_cells 0 cells))
  where
    go : (b : Bool) → cond {A = ℕ} b 0 0 ≡ 0
    go true = refl
    go false = refl

-- view b gives the least of the views below n, and is the smallest that gives it
record Leads (cells : List ℕ) (b n : ℕ) : Type 0 where
  low : b < n
  least : (w : ℕ) → w < n → less (turn_cells w cells) (turn_cells b cells) ≡ false
  early : (w : ℕ) → w < b → less (turn_cells b cells) (turn_cells w cells) ≡ true

module _ (cells : List ℕ) where
  abbrev at : ℕ → List ℕ
  at v = turn_cells v cells

  leads-first : Leads cells 0 1
  leads-first =
      record {
        low = omega arith;
        least = λ w h. let e : w ≡ 0 = omega arith in rw e (less-self (at 0));
        early = λ w h. absurd (omega arith);
      }

  -- one view more: its board is less, or it is not
  leads-more : (b n : ℕ) → Leads cells b n → (less (at n) (at b) ≡ true) ⊎ (less (at n) (at b) ≡ false)
      → Leads cells (cond (less (at n) (at b)) n b) (suc n)
  leads-more b n l (inl t) =
      let below : (w : ℕ) → w < n → less (at n) (at w) ≡ true = λ w h. less-over (at n) (at b) (at w) t (l.least w h) in
      rw t
      (record {
        low = omega arith;
        least = λ w h. now-least below w h (ℕ_discrete w n);
        early = below;
      })
    where
      now-least : ((w : ℕ) → w < n → less (at n) (at w) ≡ true) → (w : ℕ) → w < suc n → Dec (w ≡ n) → less (at w) (at n) ≡ false
      now-least below w h (yes e) = rw e (less-self (at n))
      now-least below w h (no e) = less-not (at n) (at w) (below w (omega (arith, e)))
  leads-more b n l (inr t) =
      let low = l.low in
      rw t (record { low = omega arith; least = λ w h. still w h (ℕ_discrete w n); early = l.early })
    where
      still : (w : ℕ) → w < suc n → Dec (w ≡ n) → less (at w) (at b) ≡ false
      still w h (yes e) = rw e t
      still w h (no e) = l.least w (omega (arith, e))

  leads : (n : ℕ) → Leads cells (least_of cells (suc n)) (suc n)
  unfolding least_of
  leads zero = subst (λ (b : ℕ). Leads cells b 1) (sym (least-none cells)) leads-first
  leads (suc n) = leads-more (least_of cells (suc n)) (suc n) (leads n) (decide (less (at (suc n)) (at (least_of cells (suc n)))))

  -- so after all eight it is the view that the definition looks for
  pub least-found : least_of cells 8 ≡ canonical_view cells
  unfolding canonical_view is_least
  least-found =
      let l = leads 7 in
      let b = least_of cells 8 in
      let low = l.low in
      sym (first-is (is_least cells) 8 0 b (omega arith) (omega arith)
      (T_true (all-intro 8 (λ w. not (less (at w) (at b))) (λ w h. false-not (l.least w h))))
      (λ i h. all-fails 8 (λ w. not (less (at w) (at i))) b l.low (rw (l.early i h))))

  canonical-leads : Leads cells (canonical_view cells) 8
  canonical-leads = subst (λ (b : ℕ). Leads cells b 8) least-found (leads 7)

  -- ---- what holds of the canonical form

  pub canonical-lt : canonical_view cells < 8
  canonical-lt = canonical-leads.low

  -- no view gives less
  pub canonical-least : (w : ℕ) → w < 8 → less (turn_cells w cells) (canonical_cells cells) ≡ false
  unfolding canonical_cells
  canonical-least w h = canonical-leads.least w h

  -- each smaller view gives more, so another board
  pub canonical-first : (w : ℕ) → w < canonical_view cells → less (canonical_cells cells) (turn_cells w cells) ≡ true
  unfolding canonical_cells
  canonical-first w h = canonical-leads.early w h

-- THE SAME FOR ALL EIGHT VIEWS of a board: the boards that the one and the other choose from are the same eight
pub canonical-same : (cells : List ℕ) (v : ℕ) → length cells ≡ 225 → v < 8 → canonical_cells (turn_cells v cells) ≡ canonical_cells cells
unfolding canonical_cells
canonical-same cells v long hv =
    less-same (canonical_cells (turn_cells v cells)) (canonical_cells cells)
    (rw there (canonical-least cells (then_view v m) (then-lt v m hv hm)))
    (rw here (canonical-least (turn_cells v cells) (then_view (undo v) k) (then-lt (undo v) k (undo-lt v hv) hk)))
  where
    m : ℕ
    m = canonical_view (turn_cells v cells)

    k : ℕ
    k = canonical_view cells

    hm : m < 8
    hm = canonical-lt (turn_cells v cells)

    hk : k < 8
    hk = canonical-lt cells

    there : turn_cells m (turn_cells v cells) ≡ turn_cells (then_view v m) cells
    there = cells-turn.after v m cells hv hm long

    here : turn_cells k cells ≡ turn_cells (then_view (undo v) k) (turn_cells v cells)
    here =
        ap (turn_cells k) (sym (returned cells-turn v cells hv long))
        ∙ cells-turn.after (undo v) k (turn_cells v cells) (undo-lt v hv) hk (cells-turn.stays v cells hv long)
