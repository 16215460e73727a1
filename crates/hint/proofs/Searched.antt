-- The planner's search, as the code makes it on sound lines, case by case. Assumes nothing.
use mathlib.Core.Path.{◌≡◌, refl, ap, sym, subst, ◌∙◌}
use mathlib.Core.Logic.{◌⊎◌, inl, inr}
use mathlib.Core.Bool.{Bool, true, false, not, ◌&&◌}
use mathlib.Core.List.{List, [], ◌∷◌}
use Prim.Native.Nat.{ℕ, zero, suc, ◌+◌, ◌-◌, ◌*◌, ◌≤◌, ◌<◌}
use native.Mathlib.Nat.{not-suc-le-zero, le_of_suc-le-suc, eq-or-lt_of_le}
use native.Mathlib.Numerals.{add-one, add-two}
use native.Mathlib.Omega.{arith}
use lib.ListN.{length, set}
use lib.Seq.{sets, set_comm}
use Rattle.rules.specs.Numbers.{opponent_of}
use Rattle.rules.specs.Tools.{any_below}
use Rattle.rules.specs.declared.Player.{Player}
use Rattle.rules.proofs.Logic.{along, decide, no_true}
use Rattle.hint.specs.Hint.{goes_on, completes, reaches_end, after_both}
use Rattle.hint.specs.Planner.{or_else, first_line, behind, line_from, plan_from, plan_of}
use Rattle.hint.specs.Seen.{Forced, AttackIs}
use Rattle.hint.specs.declared.attack.Attack.{Attack}
use Rattle.hint.specs.declared.attack.Attack.TheVariants as attack
use Rattle.hint.proofs.Attacks.{not-quiet}
use Rattle.hint.proofs.Planned.{Begins, Found, line-begins, line-found, line-ends, line-goes, plan-found, line-length}

-- what a function that writes a list answers
pub gives : (out : List ℕ) (at : ℕ) {l m : List ℕ} → l ≡ m → (length m ≡ length l) × (sets out at m ≡ sets out at l)
gives out at e = (ap length (sym e), ap (sets out at) (sym e))

pub nil-of : (l : List ℕ) → 0 ≡ length l → l ≡ []
nil-of [] e = refl
nil-of (x ∷ l) e = absurd (omega arith)

-- ---- one attack

module _ (r : Player) (n : ℕ) (cells : List ℕ) (p : ℕ) {a : Attack} (is : AttackIs r cells p a) where
  -- a line that begins with it would reach the end
  pub line-no : a ≡ attack.No → line_from r (plan_from r n) cells p ≡ []
  unfolding AttackIs
  line-no e =
      go (line_from r (plan_from r n) cells p) (line-begins r (plan_from r n) cells p)
      (line-found r (plan_from r n) cells p n (λ f. plan-found r n (after_both r cells p f))) (subst (AttackIs r cells p) e is)
    where
      go : (l : List ℕ) → Begins p l → Found r (suc n) cells l → ((rest : List ℕ) → reaches_end r cells (p ∷ rest) ≡ false) → l ≡ []
      go [] b f none = refl
      go (x ∷ l) b f none = absurd (along (ap (λ (y : ℕ). reaches_end r cells (y ∷ l)) b ∙ none l) f.0)

  pub line-end : a ≡ attack.Ends → line_from r (plan_from r n) cells p ≡ p ∷ []
  unfolding AttackIs
  line-end e = let t = subst (AttackIs r cells p) e is in line-ends r (plan_from r n) cells p (record { may = t.0; ends = t.1 })

module _ (r : Player) (next : List ℕ → List ℕ) (cells : List ℕ) (p e : ℕ) (f : Forced r cells p e) where
  pub line-forced : line_from r next cells p ≡ behind p e (next (after_both r cells p e))
  line-forced = line-goes r next cells p e f.may f.forced

-- with its last attack it forces nothing more
pub line-last : (r : Player) (n : ℕ) (cells : List ℕ) (p e : ℕ) → Forced r cells p e → n ≡ 1 → line_from r (plan_from r (n - 1)) cells p ≡ []
unfolding plan_from behind
line-last r n cells p e f q =
    ap (λ (k : ℕ). line_from r (plan_from r (k - 1)) cells p) q ∙ line-forced r (plan_from r 0) cells p e f

-- ---- an attack and its reply before what follows

set-sets : (out : List ℕ) (i j v : ℕ) (l : List ℕ) → i < j → set (sets out j l) i v ≡ sets (set out i v) j l
set-sets out i j v [] h = refl
set-sets out i j v (x ∷ l) h =
    set-sets (set out j x) i (suc j) v l (omega arith)
    ∙ ap (λ (o : List ℕ). sets o (suc j) l) (set_comm out j i x v (λ q. omega arith))

pub nothing-behind : (p e : ℕ) (l : List ℕ) → 0 ≡ length l → behind p e l ≡ []
unfolding behind
nothing-behind p e [] h = refl
nothing-behind p e (x ∷ l) h = absurd (omega arith)

module _ (out : List ℕ) (at p e : ℕ) (l : List ℕ) (some : length l ≡ 0 → ⊥) where
  pub two-longer : length l + 2 ≡ length (behind p e l)
  unfolding behind
  two-longer = go l some
    where
      go : (l : List ℕ) → (length l ≡ 0 → ⊥) → length l + 2 ≡ length (behind p e l)
      go [] n = absurd (n refl)
      go (x ∷ l) n = omega arith

  pub two-before : set (set (sets out (at + 2) l) at p) (at + 1) e ≡ sets out at (behind p e l)
  unfolding behind
  two-before =
      ap (λ (o : List ℕ). set o (at + 1) e) (set-sets out at (at + 2) p l (omega arith))
      ∙ set-sets (set out at p) (at + 1) (at + 2) e l (omega arith)
      ∙ rw (add-one, add-two) (go l some)
    where
      go : (l : List ℕ) → (length l ≡ 0 → ⊥) → sets (set (set out at p) (suc at) e) (suc (suc at)) l ≡ sets out at (behind p e l)
      go [] n = absurd (n refl)
      go (x ∷ l) n = refl

-- ---- the first attack that begins a line

pub plan-zero : (r : Player) (n : ℕ) (cells : List ℕ) → n ≡ 0 → plan_from r n cells ≡ []
unfolding plan_from
plan-zero r zero cells e = refl
plan-zero r (suc n) cells e = absurd (omega arith)

pub plan-step : (r : Player) (n : ℕ) (cells : List ℕ) → (n ≡ 0 → ⊥)
    → plan_from r n cells ≡ first_line 225 (line_from r (plan_from r (n - 1)) cells)
unfolding plan_from
plan-step r zero cells h = absurd (h refl)
plan-step r (suc n) cells h = ap (λ (k : ℕ). first_line 225 (line_from r (plan_from r k) cells)) (let q : n ≡ suc n - 1 = omega arith in q)

-- where the defender can complete a five there is no line
pub plan-unquiet : (r : Player) (n : ℕ) (cells : List ℕ) → any_below 225 (completes (opponent_of r) cells) ≡ true → plan_from r n cells ≡ []
plan-unquiet r n cells e = go (plan_from r n cells) (plan-found r n cells)
  where
    go : (l : List ℕ) → Found r n cells l → l ≡ []
    go [] f = refl
    go (x ∷ l) f = absurd (along (not-quiet r cells (x ∷ l) e) f.0)

pub first-none : (f : ℕ → List ℕ) → first_line 0 f ≡ []
unfolding first_line
first-none f = refl

pub first_more : (f : ℕ → List ℕ) (p : ℕ) → first_line p f ≡ [] → 0 ≡ length (f p) → first_line (p + 1) f ≡ []
unfolding first_line or_else
first_more f p e z = rw (add-one, e) (nil-of (f p) z)

pub first-here : (f : ℕ → List ℕ) (p : ℕ) → first_line p f ≡ [] → (length (f p) ≡ 0 → ⊥) → (m : ℕ) → p < m → first_line m f ≡ f p
unfolding first_line or_else
first-here f p e n zero h = absurd (not-suc-le-zero h)
first-here f p e n (suc m) h =
    elim (eq-or-lt_of_le (le_of_suc-le-suc h)) [
      | inl q ↦ ap (λ (k : ℕ). or_else (first_line k f) (f k)) (sym q) ∙ ap (λ (l : List ℕ). or_else l (f p)) e
      | inr l ↦ ap (λ (k : List ℕ). or_else k (f m)) (first-here f p e n m l) ∙ keeps (f p) n
    ]
  where
    keeps : (l : List ℕ) → (length l ≡ 0 → ⊥) → or_else l (f m) ≡ l
    keeps [] n = absurd (n refl)
    keeps (x ∷ l) n = refl

-- a plan of at most n attacks has at most 2 n points
pub plan-short : (r : Player) (n : ℕ) (cells : List ℕ) → length (plan_from r n cells) ≤ n * 2
plan-short r n cells = go (plan_from r n cells) (plan-found r n cells)
  where
    go : (l : List ℕ) → Found r n cells l → length l ≤ n * 2
    go [] f = omega arith
    go (x ∷ l) f = let e = line-length r cells (x ∷ l) f.0 in let h = f.1 in omega arith

-- ---- the whole plan, by whether a line may begin

module _ (side : Player) (n : ℕ) (cells : List ℕ) {b : Bool} (eb : b ≡ (goes_on cells && not (any_below 225 (completes (opponent_of side) cells)))) where
  pub shut-plan : b ≡ false → plan_of side n cells ≡ []
  unfolding plan_of
  shut-plan f = go (decide (goes_on cells)) (decide (any_below 225 (completes (opponent_of side) cells))) (sym eb ∙ f)
    where
      go : (goes_on cells ≡ true) ⊎ (goes_on cells ≡ false)
          → (any_below 225 (completes (opponent_of side) cells) ≡ true) ⊎ (any_below 225 (completes (opponent_of side) cells) ≡ false)
          → (goes_on cells && not (any_below 225 (completes (opponent_of side) cells))) ≡ false → plan_of side n cells ≡ []
      go (inr g) q e = rw g
      go (inl g) (inl t) e = rw g (plan-unquiet side n cells t)
      go (inl g) (inr t) e = absurd (no_true (sym e ∙ rw (g, t)))

  pub open-plan : goes_on cells ≡ true → plan_from side n cells ≡ plan_of side n cells
  unfolding plan_of
  open-plan t = sym (rw t)

-- 11 bytes hold a line of at most 6 attacks
pub plan-fits : (r : Player) (n : ℕ) (cells : List ℕ) → n ≤ 6 → length (plan_of r n cells) ≤ 11
unfolding plan_of
plan-fits r n cells h = go (decide (goes_on cells))
  where
    short : (l : List ℕ) → Found r n cells l → length l ≤ 11
    short [] f = omega arith
    short (x ∷ l) f = let e = line-length r cells (x ∷ l) f.0 in let k = f.1 in omega arith

    go : (goes_on cells ≡ true) ⊎ (goes_on cells ≡ false) → length (plan_of r n cells) ≤ 11
    go (inl g) = rw g (short (plan_from r n cells) (plan-found r n cells))
    go (inr g) = rw g (omega arith)
