-- The planner: what it gives is acceptable, is the first by codes, and is nothing only where there is nothing. Assumes nothing.
use mathlib.Core.Path.{◌≡◌, refl, sym, subst, ap, ◌∙◌}
use mathlib.Core.Logic.{◌⊎◌, inl, inr, ◌↔◌}
use mathlib.Core.Bool.{Bool, true, false, not, ◌&&◌, cond}
use mathlib.Core.List.{List, [], ◌∷◌}
use Prim.Native.Nat.{ℕ, zero, suc, ◌+◌, ◌*◌, ◌≤◌, ◌<◌}
use native.Mathlib.Nat.{not-suc-le-zero, le_of_suc-le-suc, eq-or-lt_of_le}
use native.Mathlib.Omega.{arith}
use lib.Dec.{T, eqb→eq, eqb_refl}
use lib.ListN.{length}
use Rattle.rules.specs.Grid.{put}
use Rattle.rules.specs.declared.Player.{Player}
use Rattle.rules.proofs.Logic.{decide, T_true, true-T, not-false, false-not, and_left, and_right, and_intro}
use Rattle.hint.proofs.Picked.{Picked, eyes-picked}
use Rattle.hint.specs.Hint.{Wins, goes_on, may_attack, is_four_eye, eyes_from, ends_at, only_eye, forces, after_both, reaches_end, acceptable, attacks}
use Rattle.hint.specs.Planner.{or_else, first_line, behind, via_eye, line_from, plan_from, plan_of, NotAfter}
use Rattle.hint.proofs.Winning.{legal-elim, attack-legal, accepted-wins}

-- ---- a list that ends, taken apart and put together

pub record Ends (r : Player) (cells : List ℕ) (p : ℕ) : Type 0 where
  pub may : T (may_attack r cells p)
  pub ends : T (ends_at r cells p)

pub record Goes (r : Player) (cells : List ℕ) (p e : ℕ) (rest : List ℕ) : Type 0 where
  pub may : T (may_attack r cells p)
  pub forced : T (forces r cells p e)
  pub next : T (reaches_end r (after_both r cells p e) rest)

pub one-elim : (r : Player) (cells : List ℕ) (p : ℕ) → T (reaches_end r cells (p ∷ [])) → Ends r cells p
unfolding reaches_end
one-elim r cells p t =
    record { may = and_left (may_attack r cells p) (ends_at r cells p) t; ends = and_right (may_attack r cells p) (ends_at r cells p) t }

pub one-intro : (r : Player) (cells : List ℕ) (p : ℕ) → Ends r cells p → T (reaches_end r cells (p ∷ []))
unfolding reaches_end
one-intro r cells p h = and_intro (may_attack r cells p) (ends_at r cells p) h.may h.ends

pub more-elim : (r : Player) (cells : List ℕ) (p e : ℕ) (rest : List ℕ) → T (reaches_end r cells (p ∷ e ∷ rest)) → Goes r cells p e rest
unfolding reaches_end
more-elim r cells p e rest t =
    let a = may_attack r cells p in
    let b = forces r cells p e in
    let c = reaches_end r (after_both r cells p e) rest in
    record {
      may = and_left a b (and_left (a && b) c t);
      forced = and_right a b (and_left (a && b) c t);
      next = and_right (a && b) c t;
    }

pub more-intro : (r : Player) (cells : List ℕ) (p e : ℕ) (rest : List ℕ) → Goes r cells p e rest → T (reaches_end r cells (p ∷ e ∷ rest))
unfolding reaches_end
more-intro r cells p e rest h =
    let a = may_attack r cells p in
    let b = forces r cells p e in
    let c = reaches_end r (after_both r cells p e) rest in
    and_intro (a && b) c (and_intro a b h.may h.forced) h.next

-- ---- the first list of many

not-nil : (x : ℕ) (l : List ℕ) → x ∷ l ≡ [] → ⊥
not-nil x l q = let z : ◌≡◌ {A = ℕ} 0 1 = cc in omega arith

pub first-all : (P : List ℕ → Type 0) → P [] → (f : ℕ → List ℕ) → ((p : ℕ) → P (f p)) → (m : ℕ) → P (first_line m f)
unfolding first_line or_else
first-all P none f h zero = none
first-all P none f h (suc m) = at (first_line m f) (first-all P none f h m)
  where
    at : (l : List ℕ) → P l → P (or_else l (f m))
    at [] q = h m
    at (x ∷ l) q = q

-- a list from a point begins with it
abbrev pub Begins : ℕ → List ℕ → Type 0
Begins q [] = Unit {0}
Begins q (x ∷ l) = x ≡ q

abbrev BeginsBelow : ℕ → List ℕ → Type 0
BeginsBelow m [] = Unit {0}
BeginsBelow m (x ∷ l) = x < m

-- m is a list, and none is before it but itself
abbrev pub Chosen : List ℕ → List ℕ → Type 0
Chosen m l = (m ≡ [] → ⊥) × NotAfter m l

module _ (f : ℕ → List ℕ) (begins : (q : ℕ) → Begins q (f q)) where
  below : (m : ℕ) → BeginsBelow m (first_line m f)
  unfolding first_line or_else
  below zero = tt
  below (suc m) = at (first_line m f) (f m) (below m) (begins m)
    where
      at : (l k : List ℕ) → BeginsBelow m l → Begins m k → BeginsBelow (suc m) (or_else l k)
      at [] [] h b = tt
      at [] (x ∷ k) h b = omega arith
      at (x ∷ l) k h b = omega arith

  first-chosen : (p : ℕ) (t : List ℕ) → Chosen (f p) (p ∷ t) → (m : ℕ) → p < m → Chosen (first_line m f) (p ∷ t)
  unfolding first_line or_else NotAfter
  first-chosen p t c zero h = absurd (not-suc-le-zero h)
  first-chosen p t c (suc m) h =
      elim (eq-or-lt_of_le (le_of_suc-le-suc h)) [
        | inl e ↦ now (first_line m f) e (below m)
        | inr l ↦ earlier (first_line m f) (first-chosen p t c m l)
      ]
    where
      earlier : (l : List ℕ) → Chosen l (p ∷ t) → Chosen (or_else l (f m)) (p ∷ t)
      earlier [] d = absurd (d.0 refl)
      earlier (x ∷ l) d = d

      now : (l : List ℕ) → p ≡ m → BeginsBelow m l → Chosen (or_else l (f m)) (p ∷ t)
      now [] e b = subst (λ (y : ℕ). Chosen (f y) (p ∷ t)) e c
      now (x ∷ l) e b = (not-nil x l, inl (omega arith))

-- ---- one attack and what follows

-- found: nothing, or a list that ends, of at most n attacks
abbrev pub Found : Player → ℕ → List ℕ → List ℕ → Type 0
Found r n cells [] = Unit {0}
Found r n cells (x ∷ l) = T (reaches_end r cells (x ∷ l)) × (attacks (x ∷ l) ≤ n)

module _ (r : Player) (next : List ℕ → List ℕ) (cells : List ℕ) (p : ℕ) where
  pub line-begins : Begins p (line_from r next cells p)
  unfolding line_from via_eye behind
  line-begins = at (may_attack r cells p) (ends_at r cells p) (eyes_from r (put r cells p) p)
    where
      back : (e : ℕ) (l : List ℕ) → Begins p (behind p e l)
      back e [] = tt
      back e (x ∷ l) = refl

      at : (a b : Bool) (l : List ℕ) → Begins p (cond a (cond b (p ∷ []) (via_eye (λ e. next (after_both r cells p e)) p l)) [])
      at true true l = refl
      at true false [] = tt
      at true false (e ∷ []) = back e (next (after_both r cells p e))
      at true false (e ∷ f ∷ more) = tt
      at false b l = tt

  module _ (n : ℕ) (good : (e : ℕ) → Found r n (after_both r cells p e) (next (after_both r cells p e))) where
    pub line-found : Found r (suc n) cells (line_from r next cells p)
    unfolding line_from via_eye behind forces only_eye attacks
    line-found = at (may_attack r cells p) refl (ends_at r cells p) refl (eyes_from r (put r cells p) p) refl
      where
        back : (e : ℕ) → T (may_attack r cells p) → T (forces r cells p e) → (l : List ℕ) → Found r n (after_both r cells p e) l
            → Found r (suc n) cells (behind p e l)
        back e may forced [] h = tt
        back e may forced (x ∷ l) (t, le) =
            (more-intro r cells p e (x ∷ l) (record { may = may; forced = forced; next = t }), omega arith)

        at : (a : Bool) → may_attack r cells p ≡ a → (b : Bool) → ends_at r cells p ≡ b → (l : List ℕ) → eyes_from r (put r cells p) p ≡ l
            → Found r (suc n) cells (cond a (cond b (p ∷ []) (via_eye (λ e. next (after_both r cells p e)) p l)) [])
        at true u true v l w = (one-intro r cells p (record { may = true-T u; ends = true-T v }), omega arith)
        at true u false v [] w = tt
        at true u false v (e ∷ []) w =
            back e (true-T u)
            (and_intro (not (ends_at r cells p)) (only_eye (eyes_from r (put r cells p) p) e) (false-not v)
            (subst (λ (l : List ℕ). T (only_eye l e)) (sym w) (eqb_refl e))) (next (after_both r cells p e)) (good e)
        at true u false v (e ∷ f ∷ more) w = tt
        at false u b v l w = tt

  -- an attack that ends is the line; one that forces goes on behind its reply
  pub line-ends : Ends r cells p → line_from r next cells p ≡ p ∷ []
  unfolding line_from
  line-ends h = let a = T_true h.may in let b = T_true h.ends in go (may_attack r cells p) (ends_at r cells p) a b
    where
      go : (a b : Bool) → a ≡ true → b ≡ true
          → cond a (cond b (p ∷ []) (via_eye (λ e. next (after_both r cells p e)) p (eyes_from r (put r cells p) p))) [] ≡ p ∷ []
      go a b u v = rw (u, v)

  pub line-goes : (e : ℕ) → T (may_attack r cells p) → T (forces r cells p e)
      → line_from r next cells p ≡ behind p e (next (after_both r cells p e))
  unfolding line_from via_eye forces only_eye
  line-goes e may forced =
      go (may_attack r cells p) (ends_at r cells p) (eyes_from r (put r cells p) p) (T_true may)
      (not-false (and_left (not (ends_at r cells p)) (only_eye (eyes_from r (put r cells p) p) e) forced))
      (and_right (not (ends_at r cells p)) (only_eye (eyes_from r (put r cells p) p) e) forced)
    where
      go : (a b : Bool) (l : List ℕ) → a ≡ true → b ≡ false → T (only_eye l e)
          → cond a (cond b (p ∷ []) (via_eye (λ e. next (after_both r cells p e)) p l)) [] ≡ behind p e (next (after_both r cells p e))
      go a b [] u v t = absurd t
      go a b (f ∷ []) u v t =
          let same : f ≡ e = eqb→eq f e t in
          rw (u, v) (ap (λ (y : ℕ). behind p y (next (after_both r cells p y))) same)
      go a b (f ∷ g ∷ more) u v t = absurd t

-- ---- the search

pub plan-found : (r : Player) (n : ℕ) (cells : List ℕ) → Found r n cells (plan_from r n cells)
unfolding plan_from
plan-found r zero cells = tt
plan-found r (suc n) cells =
    first-all (Found r (suc n) cells) tt (line_from r (plan_from r n) cells)
    (λ p. line-found r (plan_from r n) cells p n (λ e. plan-found r n (after_both r cells p e))) 225

point-lt : (r : Player) (cells : List ℕ) (p : ℕ) → T (may_attack r cells p) → p < 225
point-lt r cells p t = (legal-elim r cells p (attack-legal r cells p t)).lt

-- "the empty list is not acceptable"
no-empty : (r : Player) (cells : List ℕ) → T (reaches_end r cells []) → ⊥
unfolding reaches_end
no-empty r cells t = t

pub plan-chosen : (r : Player) (n : ℕ) (cells l : List ℕ) → T (reaches_end r cells l) → attacks l ≤ n → Chosen (plan_from r n cells) l
unfolding plan_from attacks NotAfter behind
plan-chosen r n cells [] t le = absurd (no-empty r cells t)
plan-chosen r zero cells (p ∷ []) t le = absurd (omega arith)
plan-chosen r zero cells (p ∷ e ∷ rest) t le = absurd (omega arith)
plan-chosen r (suc n) cells (p ∷ []) t le =
    let h = one-elim r cells p t in
    first-chosen (line_from r (plan_from r n) cells) (line-begins r (plan_from r n) cells) p []
    (rw (line-ends r (plan_from r n) cells p h) (not-nil p [], inr (refl, tt))) 225 (point-lt r cells p h.may)
plan-chosen r (suc n) cells (p ∷ e ∷ rest) t le =
    let h = more-elim r cells p e rest t in
    first-chosen (line_from r (plan_from r n) cells) (line-begins r (plan_from r n) cells) p (e ∷ rest)
    (rw (line-goes r (plan_from r n) cells p e h.may h.forced)
    (ahead (plan_from r n (after_both r cells p e)) (plan-chosen r n (after_both r cells p e) rest h.next (omega arith)))) 225
    (point-lt r cells p h.may)
  where
    ahead : (l : List ℕ) → Chosen l rest → Chosen (behind p e l) (p ∷ e ∷ rest)
    ahead [] c = absurd (c.0 refl)
    ahead (x ∷ l) c = (not-nil p (e ∷ x ∷ l), inr (refl, inr (refl, c.1)))

-- ---- THE PLAN

module _ (side : Player) (n : ℕ) (cells : List ℕ) where
  -- no points, or points: what the plan is where the game goes on, and where it does not
  live : T (goes_on cells) → plan_of side n cells ≡ plan_from side n cells
  unfolding plan_of
  live t = let on : goes_on cells ≡ true = T_true t in rw on

  over : goes_on cells ≡ false → plan_of side n cells ≡ []
  unfolding plan_of
  over e = rw e

  accepted : (l : List ℕ) → T (acceptable side cells l) → T (goes_on cells) × T (reaches_end side cells l)
  unfolding acceptable
  accepted l t = (and_left (goes_on cells) (reaches_end side cells l) t, and_right (goes_on cells) (reaches_end side cells l) t)

  -- what it gives is acceptable, with at most n attacks
  pub plan-acceptable : (plan_of side n cells ≡ [] → ⊥) → T (acceptable side cells (plan_of side n cells)) × (attacks (plan_of side n cells) ≤ n)
  unfolding acceptable
  plan-acceptable some = at (decide (goes_on cells))
    where
      good : (l : List ℕ) → (l ≡ [] → ⊥) → Found side n cells l → T (reaches_end side cells l) × (attacks l ≤ n)
      good [] some f = absurd (some refl)
      good (x ∷ l) some f = f

      at : (goes_on cells ≡ true) ⊎ (goes_on cells ≡ false)
          → T (goes_on cells && reaches_end side cells (plan_of side n cells)) × (attacks (plan_of side n cells) ≤ n)
      at (inl e) =
          let is : plan_of side n cells ≡ plan_from side n cells = live (true-T e) in
          let g = good (plan_of side n cells) some (subst (Found side n cells) (sym is) (plan-found side n cells)) in
          (and_intro (goes_on cells) (reaches_end side cells (plan_of side n cells)) (true-T e) g.0, g.1)
      at (inr e) = absurd (some (over e))

  -- of all acceptable lists with at most n attacks it is the first by comparing codes from the front; where there is one, it gives one
  pub plan-first : (l : List ℕ) → T (acceptable side cells l) → attacks l ≤ n
      → (plan_of side n cells ≡ [] → ⊥) × NotAfter (plan_of side n cells) l
  plan-first l t le =
      let a = accepted l t in
      subst (λ (m : List ℕ). Chosen m l) (sym (live a.0)) (plan-chosen side n cells l a.1 le)

  -- "It says "no line" exactly when no acceptable list of at most that many attacks exists."
  pub plan-none : (plan_of side n cells ≡ []) ↔ ((l : List ℕ) → T (acceptable side cells l) → attacks l ≤ n → ⊥)
  plan-none =
      (λ e l t le. (plan-first l t le).0 e, λ none. at (plan_of side n cells) refl none)
    where
      at : (m : List ℕ) → plan_of side n cells ≡ m → ((l : List ℕ) → T (acceptable side cells l) → attacks l ≤ n → ⊥)
          → plan_of side n cells ≡ []
      at [] e none = e
      at (x ∷ m) e none =
          let a = plan-acceptable (λ q. not-nil x m (sym e ∙ q)) in
          absurd (none (plan_of side n cells) a.0 a.1)

-- ---- how long a line is: a line of at most n attacks has less than 2 n points

pub line-length : (r : Player) (cells l : List ℕ) → T (reaches_end r cells l) → length l + 1 ≡ attacks l * 2
unfolding attacks
line-length r cells [] t = absurd (no-empty r cells t)
line-length r cells (p ∷ []) t = refl
line-length r cells (p ∷ e ∷ rest) t =
    let ih = line-length r (after_both r cells p e) rest (more-elim r cells p e rest t).next in
    omega arith

-- its points are points of the board
abbrev pub Codes : List ℕ → Type 0
Codes [] = Unit {0}
Codes (p ∷ l) = (p < 225) × Codes l

eye-code : (r : Player) (cells : List ℕ) (p e : ℕ) (l : List ℕ) → Picked (is_four_eye r cells p) 225 l → T (only_eye l e) → e < 225
unfolding only_eye
eye-code r cells p e [] h t = absurd t
eye-code r cells p e (f ∷ []) (hf, x) t = subst (λ (y : ℕ). y < 225) (eqb→eq f e t) hf
eye-code r cells p e (f ∷ g ∷ more) h t = absurd t

pub line-codes : (r : Player) (cells l : List ℕ) → T (reaches_end r cells l) → Codes l
unfolding forces
line-codes r cells [] t = tt
line-codes r cells (p ∷ []) t = (point-lt r cells p (one-elim r cells p t).may, tt)
line-codes r cells (p ∷ e ∷ rest) t =
    let h = more-elim r cells p e rest t in
    let board = put r cells p in (
      point-lt r cells p h.may,
      (
        eye-code r board p e (eyes_from r board p) (eyes-picked r board p)
            (and_right (not (ends_at r cells p)) (only_eye (eyes_from r board p) e) h.forced),
        line-codes r (after_both r cells p e) rest h.next,
      ),
    )

-- so a plan wins
pub planned-wins : (side : Player) (n : ℕ) (cells : List ℕ) → length cells ≡ 225 → (plan_of side n cells ≡ [] → ⊥)
    → Wins side (attacks (plan_of side n cells) + 1) cells
planned-wins side n cells long some = accepted-wins side cells (plan_of side n cells) long (plan-acceptable side n cells some).0
