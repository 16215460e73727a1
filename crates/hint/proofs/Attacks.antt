-- What an attack does, told by what the code sees of it. Assumes nothing.
use mathlib.Core.Path.{◌≡◌, refl, sym, subst, ◌∙◌}
use mathlib.Core.Logic.{◌⊎◌, inl, inr}
use mathlib.Core.Bool.{Bool, true, false, not, ◌&&◌, ◌||◌, and-false}
use Rattle.std.specs.Prelude.{Some, None}
use mathlib.Core.List.{List, [], ◌∷◌}
use Prim.Native.Nat.{ℕ, ◌<◌}
use lib.Dec.{T, eqb, ltb, eqb_refl, eqb→eq}
use lib.ListN.{length, get_or, length-set}
use Rattle.rules.specs.Numbers.{colour_no, is_black, is_white, is_none, opponent_of}
use Rattle.rules.specs.Tools.{any_below}
use Rattle.rules.specs.Grid.{is_empty, put, rows_through}
use Rattle.rules.specs.Forbidden.{some_row, strict_of}
use Rattle.rules.specs.declared.Player.{Player}
use Rattle.rules.specs.declared.Player.TheVariants.{Black, White}
use Rattle.rules.specs.declared.RowKind.TheVariants.{Sword, Four}
use Rattle.rules.proofs.Logic.{T_true, true-T, along, no_true, decide, and_right, and_intro, or_left, or_right}
use Rattle.rules.proofs.Logic.{false-not, not-false}
use Rattle.rules.proofs.Logic.{any-intro, any-elim}
use Rattle.rules.proofs.More.{some_row-elim}
use Rattle.hint.specs.Hint.{legal, completes, may_attack, is_four_eye, eyes_from, ends_by, ends_at, only_eye, forces, after_both, reaches_end}
use Rattle.hint.specs.Seen.{is_several, OnlyEye, Quiet, Forced, AttackIs, AnswerIs}
use Rattle.hint.specs.declared.attack.Attack.{Attack}
use Rattle.hint.specs.declared.attack.Attack.TheVariants as attack
use Rattle.hint.proofs.Stone.{completes-told, eye-elim, eye-empty, eye-completes}
use Rattle.hint.proofs.Winning.{legal-intro, completes-legal}
use Rattle.hint.proofs.Swords.{eye-sword, end-shape, forces-shape}
use Rattle.hint.proofs.Quiet.{quiet_next}
use Rattle.hint.proofs.Picked.{Picked, eyes-picked}
use Rattle.hint.proofs.Gaps.{sword-eye}

abbrev forbids : Player → List ℕ → ℕ → Bool
forbids r cells p = is_black r && not (is_none (strict_of cells p))

-- ---- no line begins with p

no-attack : (r : Player) (cells : List ℕ) (p : ℕ) → may_attack r cells p ≡ false → (rest : List ℕ) → reaches_end r cells (p ∷ rest) ≡ false
unfolding reaches_end
no-attack r cells p e [] = rw e
no-attack r cells p e (x ∷ rest) = rw e

not-legal : (r : Player) (cells : List ℕ) (p : ℕ) → legal r cells p ≡ false → (rest : List ℕ) → reaches_end r cells (p ∷ rest) ≡ false
unfolding may_attack
not-legal r cells p e = no-attack r cells p (rw e (and-false (not (any_below 225 (completes (opponent_of r) cells)))))

pub not-quiet : (r : Player) (cells list : List ℕ) → any_below 225 (completes (opponent_of r) cells) ≡ true → reaches_end r cells list ≡ false
unfolding may_attack reaches_end
not-quiet r cells [] e = refl
not-quiet r cells (p ∷ []) e = rw e
not-quiet r cells (p ∷ x ∷ rest) e = rw e

pub off-board : (r : Player) (cells : List ℕ) (p : ℕ) → ltb p 225 ≡ false → (rest : List ℕ) → reaches_end r cells (p ∷ rest) ≡ false
unfolding legal
off-board r cells p e = not-legal r cells p (rw e)

pub taken-no : (r : Player) (cells : List ℕ) (p : ℕ) → is_empty (get_or cells p 0) ≡ false → AttackIs r cells p attack.No
unfolding AttackIs legal
taken-no r cells p e = not-legal r cells p (rw (e, and-false (ltb p 225)))

-- ---- at an empty point, where the defender can complete nothing

module _ (r : Player) (cells : List ℕ) (p : ℕ) (long : length cells ≡ 225) (hp : p < 225) (free : T (is_empty (get_or cells p 0)))
    (quiet : Quiet r cells) where
  abbrev board : List ℕ
  board = put r cells p

  may : T (legal r cells p) → T (may_attack r cells p)
  unfolding may_attack
  may t = and_intro (not (any_below 225 (completes (opponent_of r) cells))) (legal r cells p) (false-not quiet) t

  -- it completes a five
  pub five-ends : some_row (rows_through r Four cells p) ≡ true → AttackIs r cells p attack.Ends
  unfolding AttackIs ends_at
  five-ends e =
      let c : T (completes r cells p) =
      along (sym (completes-told r cells p long hp))
      (and_intro (is_empty (get_or cells p 0)) (some_row (rows_through r Four cells p)) free (true-T e)) in
      (may (completes-legal r cells p long hp c), or_left (completes r cells p) (ends_by r board (eyes_from r board p)) c)

  module _ (no-five : some_row (rows_through r Four cells p) ≡ false) where
    no-completing : completes r cells p ≡ false
    no-completing = completes-told r cells p long hp ∙ rw (no-five, and-false (is_empty (get_or cells p 0)))

    -- "only points where the attacker has a Sword or a Four through them can be attacks"
    pub no-sword-no : some_row (rows_through r Sword cells p) ≡ false → AttackIs r cells p attack.No
    unfolding AttackIs reaches_end
    no-sword-no e [] = go (decide (may_attack r cells p && ends_at r cells p))
      where
        shape : T (completes r cells p) ⊎ T (some_row (rows_through r Sword cells p)) → ⊥
        shape (inl u) = along no-completing u
        shape (inr u) = along e u

        go : ((may_attack r cells p && ends_at r cells p) ≡ true) ⊎ ((may_attack r cells p && ends_at r cells p) ≡ false)
            → (may_attack r cells p && ends_at r cells p) ≡ false
        go (inl t) = absurd (shape (end-shape r cells p long hp free (and_right (may_attack r cells p) (ends_at r cells p) (true-T t))))
        go (inr t) = t
    no-sword-no e (x ∷ rest) = go (decide (forces r cells p x))
      where
        go : (forces r cells p x ≡ true) ⊎ (forces r cells p x ≡ false)
            → (may_attack r cells p && forces r cells p x && reaches_end r (after_both r cells p x) rest) ≡ false
        go (inl t) = absurd (along e (forces-shape r cells p long hp free x (true-T t)))
        go (inr t) = rw (t, and-false (may_attack r cells p))

    pub forbidden-no : (is_black r && not (is_none (strict_of cells p))) ≡ true → AttackIs r cells p attack.No
    unfolding AttackIs legal
    forbidden-no e = not-legal r cells p (rw (barred r e, and-false (ltb p 225 && is_empty (get_or cells p 0))))
      where
        barred : (r : Player) → (is_black r && not (is_none (strict_of cells p))) ≡ true → (is_white r || is_none (strict_of cells p)) ≡ false
        barred Black q = not-false (true-T q)
        barred White q = absurd (no_true q)

    module _ (allowed : (is_black r && not (is_none (strict_of cells p))) ≡ false) where
      is-legal : T (legal r cells p)
      is-legal = legal-intro r cells p (record { lt = hp; none = free; allowed = permits r allowed })
        where
          permits : (r : Player) → (is_black r && not (is_none (strict_of cells p))) ≡ false → T (is_white r || is_none (strict_of cells p))
          permits Black q = yes-none (is_none (strict_of cells p)) q
            where
              yes-none : (b : Bool) → not b ≡ false → T b
              yes-none true q = tt
              yes-none false q = absurd (no_true (sym q))
          permits White q = tt

      pub several-ends : OnlyEye (eyes_from r (put r cells p) p) None → AttackIs r cells p attack.Ends
      unfolding AttackIs ends_at ends_by is_several OnlyEye
      several-ends more =
          (may is-legal, or_right (completes r cells p) (ends_by r board (eyes_from r board p)) (go (eyes_from r board p) more))
        where
          go : (l : List ℕ) → is_several l ≡ true → T (ends_by r board l)
          go [] q = absurd (no_true q)
          go (a ∷ []) q = absurd (no_true q)
          go (a ∷ b ∷ more) q = tt

      -- ---- the only eye e

      module _ (e : ℕ) (eyes : eyes_from r (put r cells p) p ≡ e ∷ []) where
        eye-is : (e < 225) × T (is_four_eye r (put r cells p) p e)
        eye-is = subst (Picked (is_four_eye r board p) 225) eyes (eyes-picked r board p)

        board-long : length (put r cells p) ≡ 225
        board-long = length-set cells p (colour_no r) ∙ long

        pub eye-lt : e < 225
        eye-lt = eye-is.0

        pub eye-free : T (is_empty (get_or (put r cells p) e 0))
        eye-free = eye-empty r board e board-long eye-lt (eye-elim r board p e eye-is.1)

        -- the defender is Black where the attacker is White
        same-side : (r : Player) (cells : List ℕ) (e : ℕ)
            → (is_white r && not (is_none (strict_of cells e))) ≡ (is_black (opponent_of r) && not (is_none (strict_of cells e)))
        same-side Black cells e = refl
        same-side White cells e = refl

        ends_is : ends_at r cells p ≡ (is_black (opponent_of r) && not (is_none (strict_of (put r cells p) e)))
        unfolding ends_at ends_by
        ends_is = rw (no-completing, eyes) (same-side r board e)

        forced : (is_black (opponent_of r) && not (is_none (strict_of (put r cells p) e))) ≡ false → T (forces r cells p e)
        unfolding forces only_eye
        forced q =
            and_intro (not (ends_at r cells p)) (only_eye (eyes_from r board p) e) (false-not (ends_is ∙ q))
            (subst (λ (l : List ℕ). T (only_eye l e)) (sym eyes) (eqb_refl e))

        -- a Sword of the defender's through the eye is a Four after the reply
        unquiet : some_row (rows_through (opponent_of r) Sword (put r cells p) e) ≡ true
            → any_below 225 (completes (opponent_of r) (after_both r cells p e)) ≡ true
        unquiet q =
            let (d, j, hd, hj, u) = some_row-elim (rows_through (opponent_of r) Sword board e) (true-T q) in
            let s = sword-eye (opponent_of r) board e board-long eye-lt eye-free d j hd u in
            let next = after_both r cells p e in
            T_true (any-intro 225 (completes (opponent_of r) next) _ s.lt
            (eye-completes (opponent_of r) next _ (length-set board e (colour_no (opponent_of r)) ∙ board-long) s.lt
            (eye-elim (opponent_of r) next e _ s.eye)))

        four-no : (is_black (opponent_of r) && not (is_none (strict_of (put r cells p) e))) ≡ false
            → some_row (rows_through (opponent_of r) Sword (put r cells p) e) ≡ true → AttackIs r cells p attack.No
        unfolding AttackIs reaches_end forces only_eye
        four-no a q [] = rw (ends_is ∙ a, and-false (may_attack r cells p))
        four-no a q (x ∷ rest) = go (decide (eqb e x))
          where
            go : (eqb e x ≡ true) ⊎ (eqb e x ≡ false)
                → (may_attack r cells p && (not (ends_at r cells p) && only_eye (eyes_from r (put r cells p) p) x)
                && reaches_end r (after_both r cells p x) rest) ≡ false
            go (inl t) =
                let same : e ≡ x = eqb→eq e x (true-T t) in
                let dead : reaches_end r (after_both r cells p x) rest ≡ false =
                not-quiet r (after_both r cells p x) rest
                (subst (λ (y : ℕ). any_below 225 (completes (opponent_of r) (after_both r cells p y)) ≡ true) same (unquiet q)) in
                rw (dead, and-false (may_attack r cells p && (not (ends_at r cells p) && only_eye (eyes_from r (put r cells p) p) x)))
            go (inr t) = rw (eyes, t, and-false (not (ends_at r cells p)), and-false (may_attack r cells p))

        still-quiet : some_row (rows_through (opponent_of r) Sword (put r cells p) e) ≡ false → Quiet r (after_both r cells p e)
        still-quiet q =
            quiet_next r cells p e long hp free eye-lt eye-free quiet
            ∙ none (decide (any_below 225 (is_four_eye (opponent_of r) (after_both r cells p e) e)))
          where
            none : (any_below 225 (is_four_eye (opponent_of r) (after_both r cells p e) e) ≡ true)
                ⊎ (any_below 225 (is_four_eye (opponent_of r) (after_both r cells p e) e) ≡ false)
                → any_below 225 (is_four_eye (opponent_of r) (after_both r cells p e) e) ≡ false
            none (inl t) =
                let (f, hf, u) = any-elim 225 (is_four_eye (opponent_of r) (after_both r cells p e) e) (true-T t) in
                absurd (along q (eye-sword (opponent_of r) board e board-long eye-lt eye-free f u))
            none (inr t) = t

        -- the reply tells the attack
        pub answered : (a : Attack) → AnswerIs (opponent_of r) (put r cells p) e a → AttackIs r cells p a
        unfolding AnswerIs AttackIs
        answered attack.No (x, y) = four-no x y
        answered attack.Ends x = (may is-legal, true-T (ends_is ∙ x))
        answered (attack.Forces f) (same, x, y) =
            subst (Forced r cells p) (sym same) (record { may = may is-legal; forced = forced x; quiet = still-quiet y })

-- an eye that is told is the only one
pub only-told : {l : List ℕ} {e : ℕ} → OnlyEye l (Some e) → l ≡ e ∷ []
unfolding OnlyEye
only-told told = told

-- ---- the reply, test by test

module _ (r : Player) (cells : List ℕ) (e : ℕ) where
  pub answer-ends : (is_black r && not (is_none (strict_of cells e))) ≡ true → AnswerIs r cells e attack.Ends
  unfolding AnswerIs
  answer-ends a = a

  pub answer-no : (is_black r && not (is_none (strict_of cells e))) ≡ false → some_row (rows_through r Sword cells e) ≡ true
      → AnswerIs r cells e attack.No
  unfolding AnswerIs
  answer-no a b = (a, b)

  pub answer-forces : (is_black r && not (is_none (strict_of cells e))) ≡ false → some_row (rows_through r Sword cells e) ≡ false
      → AnswerIs r cells e (attack.Forces e)
  unfolding AnswerIs
  answer-forces a b = (refl, a, b)
