-- An accepted line wins against every reply. Assumes nothing.
use mathlib.Core.Path.{◌≡◌, refl, sym, subst, ap, ◌∙◌}
use mathlib.Core.Logic.{◌⊎◌, inl, inr}
use mathlib.Core.Bool.{Bool, true, false, not, ◌&&◌, ◌||◌}
use mathlib.Core.List.{List, [], ◌∷◌}
use Prim.Native.Nat.{ℕ, suc, ◌+◌, ◌<◌}
use native.Mathlib.Numerals.{add-one}
use native.Mathlib.Decide.{ℕ_discrete}
use lib.Dec.{T, ltb, eqb→eq, ltb→lt, lt→ltb}
use lib.ListN.{length, get_or, length-set}
use Rattle.rules.specs.Numbers.{colour_no, is_none, is_white, opponent_of}
use Rattle.rules.specs.Tools.{any_below}
use Rattle.rules.specs.Grid.{is_empty, put, rows_through}
use Rattle.rules.specs.Forbidden.{completes_five, strict_of}
use Rattle.rules.specs.declared.Player.{Player}
use Rattle.rules.specs.declared.Player.TheVariants.{Black, White}
use Rattle.rules.specs.declared.RowKind.TheVariants.{Four}
use Rattle.rules.specs.declared.Verdict.{Verdict}
use Rattle.rules.specs.declared.Verdict.TheVariants.{None}
use Rattle.rules.proofs.Logic.{T_true, true-T, along, and_left, and_right, and_intro, or_left, or_right}
use Rattle.rules.proofs.Logic.{any-intro, not-intro, not-elim, not-not, decide}
use Rattle.rules.proofs.More.{some_row-intro}
use Rattle.rules.proofs.Rows.{start-lt}
use Rattle.rules.proofs.Fuel.{strict_of-plain}
use Rattle.hint.specs.Hint.{has_five, goes_on, legal, Answered, Wins, completes, may_attack, is_four_eye, eyes_from, ends_by, ends_at}
use Rattle.hint.specs.Hint.{only_eye, forces, after_both, reaches_end, acceptable, attacks}
use Rattle.hint.proofs.Stone.{other-no, no_other, Completes, completes-five, five-made}
use Rattle.hint.proofs.Stone.{no-five-by, no-completing-by, completes-empty, completes-elim}
use Rattle.hint.proofs.Stone.{EyeAt, eye-elim, eye-empty, eye-completes, stands}
use Rattle.hint.proofs.Picked.{Picked, eyes-picked}

-- ---- the game's tests

pub goes_on-none : (cells : List ℕ) → T (goes_on cells) → (r : Player) → T (has_five r cells) → ⊥
unfolding goes_on
goes_on-none cells t Black = not-elim (has_five Black cells) (and_left (not (has_five Black cells)) (not (has_five White cells)) t)
goes_on-none cells t White = not-elim (has_five White cells) (and_right (not (has_five Black cells)) (not (has_five White cells)) t)

pub goes_on-intro : (cells : List ℕ) (r : Player) → (T (has_five r cells) → ⊥) → (T (has_five (opponent_of r) cells) → ⊥) → T (goes_on cells)
unfolding goes_on
goes_on-intro cells Black f g =
    and_intro (not (has_five Black cells)) (not (has_five White cells)) (not-intro (has_five Black cells) f) (not-intro (has_five White cells) g)
goes_on-intro cells White f g =
    and_intro (not (has_five Black cells)) (not (has_five White cells)) (not-intro (has_five Black cells) g) (not-intro (has_five White cells) f)

pub record Legal (r : Player) (cells : List ℕ) (p : ℕ) : Type 0 where
  pub lt : p < 225
  pub none : T (is_empty (get_or cells p 0))
  pub allowed : T (is_white r || is_none (strict_of cells p))

pub legal-elim : (r : Player) (cells : List ℕ) (p : ℕ) → T (legal r cells p) → Legal r cells p
unfolding legal
legal-elim r cells p t =
    let a = ltb p 225 in
    let b = is_empty (get_or cells p 0) in
    let c = is_white r || is_none (strict_of cells p) in
    record {
      lt = ltb→lt p 225 (and_left a b (and_left (a && b) c t));
      none = and_right a b (and_left (a && b) c t);
      allowed = and_right (a && b) c t;
    }

pub legal-intro : (r : Player) (cells : List ℕ) (p : ℕ) → Legal r cells p → T (legal r cells p)
unfolding legal
legal-intro r cells p l =
    let a = ltb p 225 in
    let b = is_empty (get_or cells p 0) in
    let c = is_white r || is_none (strict_of cells p) in
    and_intro (a && b) c (and_intro a b (lt→ltb p 225 l.lt) l.none) l.allowed

-- a point that completes a five is never forbidden
pub completes-legal : (r : Player) (cells : List ℕ) (p : ℕ) → length cells ≡ 225 → p < 225 → T (completes r cells p) → T (legal r cells p)
unfolding completes_five
completes-legal r cells p long hp t =
    legal-intro r cells p (record { lt = hp; none = none; allowed = at r (completes-elim r cells p long hp t) })
  where
    none : T (is_empty (get_or cells p 0))
    none = completes-empty r cells p t

    at : (r : Player) → Completes r cells p → T (is_white r || is_none (strict_of cells p))
    at Black c =
        let five : completes_five cells p ≡ true =
        T_true (some_row-intro (rows_through Black Four cells p) c.d c.j c.d-lt (start-lt Black Four cells p c.d c.j c.four)
        c.four) in
        let free : is_empty (get_or cells p 0) ≡ true = T_true none in
        let is : strict_of cells p ≡ None = strict_of-plain cells p long hp ∙ rw (free, five) in
        subst (λ (v : Verdict). T (is_none v)) (sym is) tt
    at White c = tt

-- the attacker has a point that completes a five: it wins there
pub win-now : (r : Player) (cells : List ℕ) (e k : ℕ) → length cells ≡ 225 → T (goes_on cells) → e < 225 → T (completes r cells e)
    → Wins r (suc k) cells
unfolding Wins
win-now r cells e k long on he t =
    (on, e, completes-legal r cells e long he t, inl (completes-five cells e long he (completes-empty r cells e t) r t))

-- an attack is legal, and before it no point completes a five for the defender
pub attack-legal : (r : Player) (cells : List ℕ) (p : ℕ) → T (may_attack r cells p) → T (legal r cells p)
unfolding may_attack
attack-legal r cells p may = and_right (not (any_below 225 (completes (opponent_of r) cells))) (legal r cells p) may

-- ---- after an attack that completes nothing, before which the defender could complete nothing

module _ (r : Player) (cells : List ℕ) (p : ℕ) (long : length cells ≡ 225) (on : T (goes_on cells)) (may : T (may_attack r cells p)) where
  quiet : (q : ℕ) → q < 225 → T (completes (opponent_of r) cells q) → ⊥
  unfolding may_attack
  quiet q hq t =
      not-elim (any_below 225 (completes (opponent_of r) cells))
      (and_left (not (any_below 225 (completes (opponent_of r) cells))) (legal r cells p) may)
      (any-intro 225 (completes (opponent_of r) cells) q hq t)

  is-legal : Legal r cells p
  is-legal = legal-elim r cells p (attack-legal r cells p may)

  after-long : length (put r cells p) ≡ 225
  after-long = length-set cells p (colour_no r) ∙ long

  module _ (not_five : T (completes r cells p) → ⊥) where
    -- no five stands
    own-five : T (has_five r (put r cells p)) → ⊥
    own-five t = at (five-made cells p long is-legal.lt is-legal.none r t)
      where
        at : T (has_five r cells) ⊎ T (completes r cells p) → ⊥
        at (inl u) = goes_on-none cells on r u
        at (inr u) = not_five u

    other-five : T (has_five (opponent_of r) (put r cells p)) → ⊥
    other-five t = goes_on-none cells on (opponent_of r) (no-five-by cells p long is-legal.lt is-legal.none (opponent_of r) r (other-no r) t)

    after_on : T (goes_on (put r cells p))
    after_on = goes_on-intro (put r cells p) r own-five other-five

    -- nor does one after any reply: the attacker's stone only takes away
    reply-on : (q : ℕ) → T (legal (opponent_of r) (put r cells p) q) → T (goes_on (after_both r cells p q))
    reply-on q t =
        let l = legal-elim (opponent_of r) (put r cells p) q t in
        goes_on-intro (after_both r cells p q) r
        (λ u. own-five (no-five-by (put r cells p) q after-long l.lt l.none r (opponent_of r) (no_other r) u))
        (λ u. at l.lt (five-made (put r cells p) q after-long l.lt l.none (opponent_of r) u))
      where
        at : q < 225 → T (has_five (opponent_of r) (put r cells p)) ⊎ T (completes (opponent_of r) (put r cells p) q) → ⊥
        at hq (inl u) = other-five u
        at hq (inr u) = quiet q hq (no-completing-by cells p long is-legal.lt is-legal.none (opponent_of r) r (other-no r) q hq u)

    reply-long : (q : ℕ) → length (after_both r cells p q) ≡ 225
    reply-long q = length-set (put r cells p) q (colour_no (opponent_of r)) ∙ after-long

    -- the attacker has an eye
    module _ (e k : ℕ) (he : e < 225) (eye : EyeAt r (put r cells p) e) where
      pass-wins : Wins r (suc k) (put r cells p)
      pass-wins = win-now r (put r cells p) e k after-long after_on he (eye-completes r (put r cells p) e after-long he eye)

      -- a reply elsewhere loses at once
      elsewhere : (q : ℕ) → T (legal (opponent_of r) (put r cells p) q) → (q ≡ e → ⊥) → Wins r (suc k) (after_both r cells p q)
      elsewhere q t off =
          let l = legal-elim (opponent_of r) (put r cells p) q t in
          win-now r (after_both r cells p q) e k (reply-long q) (reply-on q t) he
          (stands r (put r cells p) e after-long he eye q l.lt l.none off)

      -- the eye is forbidden
      pub wins-forbidden : (T (legal (opponent_of r) (put r cells p) e) → ⊥) → Answered r (Wins r (suc k)) (put r cells p)
      unfolding Answered
      wins-forbidden never =
          (λ q t. elsewhere q t (λ x. never (subst (λ (y : ℕ). T (legal (opponent_of r) (put r cells p) y)) x t)), λ none. pass-wins)

      -- the eye is played, and the attacker wins all the same
      pub wins-forced : T (legal (opponent_of r) (put r cells p) e) → Wins r (suc k) (after_both r cells p e)
          → Answered r (Wins r (suc k)) (put r cells p)
      unfolding Answered
      wins-forced free next = (λ q t. at q t (ℕ_discrete q e), λ none. absurd (none e free))
        where
          at : (q : ℕ) → T (legal (opponent_of r) (put r cells p) q) → Dec (q ≡ e) → Wins r (suc k) (after_both r cells p q)
          at q t (yes x) = subst (λ (y : ℕ). Wins r (suc k) (after_both r cells p y)) (sym x) next
          at q t (no x) = elsewhere q t x

    -- one stone does not take two eyes
    pub wins-two : (e f k : ℕ) → e < 225 → f < 225 → EyeAt r (put r cells p) e → EyeAt r (put r cells p) f → (e ≡ f → ⊥)
        → Answered r (Wins r (suc k)) (put r cells p)
    unfolding Answered
    wins-two e f k he hf eye eye' apart = (λ q t. at q t (ℕ_discrete q e), λ none. pass-wins e k he eye)
      where
        at : (q : ℕ) → T (legal (opponent_of r) (put r cells p) q) → Dec (q ≡ e) → Wins r (suc k) (after_both r cells p q)
        at q t (yes x) = elsewhere f k hf eye' q t (λ y. apart (sym x ∙ y))
        at q t (no x) = elsewhere e k he eye q t x

-- ---- the check's cases

-- the reply at the only eye: forbidden, or legal
pub forbidden-eye : (r : Player) (cells : List ℕ) (e : ℕ) → T (is_white r && not (is_none (strict_of cells e)))
    → T (legal (opponent_of r) cells e) → ⊥
forbidden-eye Black cells e t l = t
forbidden-eye White cells e t l = not-elim (is_none (strict_of cells e)) t (legal-elim Black cells e l).allowed

pub free-eye : (r : Player) (cells : List ℕ) (e : ℕ) → e < 225 → T (is_empty (get_or cells e 0))
    → (T (is_white r && not (is_none (strict_of cells e))) → ⊥) → T (legal (opponent_of r) cells e)
free-eye Black cells e he none n = legal-intro White cells e (record { lt = he; none = none; allowed = tt })
free-eye White cells e he none n =
    legal-intro Black cells e (record { lt = he; none = none; allowed = not-not (is_none (strict_of cells e)) n })

module _ (r : Player) (cells : List ℕ) (p k : ℕ) (long : length cells ≡ 225) (on : T (goes_on cells)) (may : T (may_attack r cells p)) where
  -- the last attack
  end-wins : T (ends_at r cells p) → Wins r (suc (suc k)) cells
  unfolding ends_at ends_by Wins
  end-wins t = at (decide (completes r cells p))
    where
      board : List ℕ
      board = put r cells p

      by-eyes : (T (completes r cells p) → ⊥) → (l : List ℕ) → Picked (is_four_eye r board p) 225 l → T (ends_by r board l)
          → Answered r (Wins r (suc k)) board
      by-eyes n [] h u = absurd u
      by-eyes n (e ∷ []) (he, x) u =
          wins-forbidden r cells p long on may n e k he (eye-elim r board p e x) (forbidden-eye r board e u)
      by-eyes n (e ∷ f ∷ more) h u =
          wins-two r cells p long on may n e f k h.0 h.1 (eye-elim r board p e h.2) (eye-elim r board p f h.3) h.4

      at : (completes r cells p ≡ true) ⊎ (completes r cells p ≡ false) → Wins r (suc (suc k)) cells
      at (inl c) =
          let l = legal-elim r cells p (attack-legal r cells p may) in
          (on, p, attack-legal r cells p may, inl (completes-five cells p long l.lt l.none r (true-T c)))
      at (inr c) =
          let n : T (completes r cells p) → ⊥ = λ u. along c u in (
            on,
            p,
            attack-legal r cells p may,
            inr (by-eyes n (eyes_from r board p) (eyes-picked r board p)
                (along (ap (λ (b : Bool). b || ends_by r board (eyes_from r board p)) c) t)),
          )

  -- an attack with one eye that the defender takes
  forced-wins : (e : ℕ) → T (forces r cells p e) → (T (goes_on (after_both r cells p e)) → Wins r (suc k) (after_both r cells p e))
      → Wins r (suc (suc k)) cells
  unfolding forces ends_at ends_by only_eye Wins
  forced-wins e t next = (
    on,
    p,
    attack-legal r cells p may,
    inr (by-eye (eyes_from r board p) refl (eyes-picked r board p)
        (and_right (not (ends_at r cells p)) (only_eye (eyes_from r board p) e) t)),
  )
    where
      board : List ℕ
      board = put r cells p

      goes : T (ends_at r cells p) → ⊥
      goes = not-elim (ends_at r cells p) (and_left (not (ends_at r cells p)) (only_eye (eyes_from r board p) e) t)

      n : T (completes r cells p) → ⊥
      n u = goes (or_left (completes r cells p) (ends_by r board (eyes_from r board p)) u)

      open-eye : (f : ℕ) → eyes_from r board p ≡ f ∷ [] → T (is_white r && not (is_none (strict_of board f))) → ⊥
      open-eye f is u =
          goes (or_right (completes r cells p) (ends_by r board (eyes_from r board p))
          (subst (λ (l : List ℕ). T (ends_by r board l)) (sym is) u))

      by-eye : (l : List ℕ) → eyes_from r board p ≡ l → Picked (is_four_eye r board p) 225 l → T (only_eye l e)
          → Answered r (Wins r (suc k)) board
      by-eye [] is h u = absurd u
      by-eye (f ∷ []) is (hf, x) u =
          let same : f ≡ e = eqb→eq f e u in
          let eye = eye-elim r board p f x in
          let free = free-eye r board f hf (eye-empty r board f (length-set cells p (colour_no r) ∙ long) hf eye) (open-eye f is) in
          wins-forced r cells p long on may n f k hf eye free
          (subst (λ (y : ℕ). Wins r (suc k) (after_both r cells p y)) (sym same)
          (next (subst (λ (y : ℕ). T (goes_on (after_both r cells p y))) same (reply-on r cells p long on may n f free))))
      by-eye (f ∷ g ∷ more) is h u = absurd u

-- ---- THE THEOREM

line-wins : (r : Player) (cells list : List ℕ) → length cells ≡ 225 → T (goes_on cells) → T (reaches_end r cells list)
    → Wins r (suc (attacks list)) cells
unfolding reaches_end attacks
line-wins r cells [] long on t = absurd t
line-wins r cells (p ∷ []) long on t =
    end-wins r cells p 0 long on (and_left (may_attack r cells p) (ends_at r cells p) t) (and_right (may_attack r cells p) (ends_at r cells p) t)
line-wins r cells (p ∷ e ∷ rest) long on t =
    let a = may_attack r cells p in
    let b = forces r cells p e in
    let c = reaches_end r (after_both r cells p e) rest in
    forced-wins r cells p (attacks rest) long on (and_left a b (and_left (a && b) c t)) e (and_right a b (and_left (a && b) c t))
    (λ goes. line-wins r (after_both r cells p e) rest
    (length-set (put r cells p) e (colour_no (opponent_of r)) ∙ (length-set cells p (colour_no r) ∙ long)) goes (and_right (a && b) c t))

-- "An accepted line wins against every reply": one of a attacks within a + 1 moves of the attacker's
pub accepted-wins : (side : Player) (cells list : List ℕ) → length cells ≡ 225 → T (acceptable side cells list)
    → Wins side (attacks list + 1) cells
unfolding acceptable
accepted-wins side cells list long t =
    rw add-one
    (line-wins side cells list long (and_left (goes_on cells) (reaches_end side cells list) t)
    (and_right (goes_on cells) (reaches_end side cells list) t))
