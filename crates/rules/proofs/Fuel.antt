-- A question that asks itself, whatever its answers are: the number of empty points is deep enough. So the strict verdict answers its own
-- question. Assumes nothing.
use mathlib.Core.Path.{◌≡◌, refl, sym, subst, subst⁻¹, ap, ◌∙◌}
use mathlib.Core.Bool.{Bool, true, false, not, ◌&&◌, cond}
use mathlib.Core.List.{List}
use Prim.Native.Nat.{ℕ, zero, suc, ◌≤◌, ◌<◌}
use native.Mathlib.Omega.{arith}
use lib.Dec.{T}
use lib.ListN.{length, get_or, length-set}
use Rattle.rules.specs.Numbers.{is_none}
use Rattle.rules.specs.Point.{line_no, point_at}
use Rattle.rules.specs.Grid.{is_empty, empties, rows_through, eye_on}
use Rattle.rules.specs.Forbidden.{Ask, more_than_one, good_eye, is_real, real_threes, with_black}
use Rattle.rules.specs.Forbidden.{is_overline, is_double_four, is_double_three, plain_with}
use Rattle.rules.specs.Forbidden.{completes_five, strict_with, nested_n, nested_of, strict_n, strict_of, plain_of}
use Rattle.rules.specs.declared.Player.TheVariants.{Black}
use Rattle.rules.specs.declared.RowKind.TheVariants.{Two, Three}
use Rattle.rules.specs.declared.Verdict.{Verdict}
use Rattle.rules.specs.declared.Verdict.TheVariants.{None, DoubleThree, DoubleFour, Overline}
use Rattle.rules.proofs.Logic.{true-T, and_left, and_right, and_intro, both_ways, any-elim, any-intro}
use Rattle.rules.proofs.Address.{point-lt, line-here}
use Rattle.rules.proofs.Changes.{empties-put}
use Rattle.rules.proofs.More.{more-mono}
use Rattle.rules.proofs.Rows.{eye-inside}

-- ---- any question that asks itself

-- What one step may ask: at an occupied point nothing, and its answer is `rest`; at an empty one, about points of the board with Black
-- there.
pub record Nests {A : Type 0} (rest : A) (step : Ask A → Ask A) : Type 0 where
  pub taken : (ask : Ask A) (cells : List ℕ) (p : ℕ) → is_empty (get_or cells p 0) ≡ false → step ask cells p ≡ rest
  pub asks : (ask ask' : Ask A) (cells : List ℕ) (p : ℕ) → length cells ≡ 225 → p < 225 → is_empty (get_or cells p 0) ≡ true
      → ((e : ℕ) → e < 225 → ask (with_black cells p) e ≡ ask' (with_black cells p) e) → step ask cells p ≡ step ask' cells p

-- one empty point fewer
pub fewer : (cells : List ℕ) (p : ℕ) → length cells ≡ 225 → p < 225 → is_empty (get_or cells p 0) ≡ true
    → empties cells ≡ suc (empties (with_black cells p))
fewer cells p l hp z = empties-put Black cells p (subst⁻¹ (λ (n : ℕ). p < n) l hp) (true-T z)

module _ {A : Type 0} (rest : A) (step : Ask A → Ask A) (nests : Nests rest step) where
  -- with no empty point there is nothing to ask
  full : (ask : Ask A) (cells : List ℕ) (p : ℕ) → length cells ≡ 225 → p < 225 → empties cells ≤ 0 → step ask cells p ≡ rest
  full ask cells p l hp a = at (is_empty (get_or cells p 0)) refl
    where
      at : (b : Bool) → is_empty (get_or cells p 0) ≡ b → step ask cells p ≡ rest
      at true z = absurd (let x = fewer cells p l hp z in omega arith)
      at false z = nests.taken ask cells p z

  -- two ways to answer the next question, the same where it may be asked
  step_same : (ask ask' : Ask A) (cells : List ℕ) (p : ℕ) → length cells ≡ 225 → p < 225
      → (is_empty (get_or cells p 0) ≡ true → (e : ℕ) → e < 225 → ask (with_black cells p) e ≡ ask' (with_black cells p) e)
      → step ask cells p ≡ step ask' cells p
  step_same ask ask' cells p l hp same = at (is_empty (get_or cells p 0)) refl
    where
      at : (b : Bool) → is_empty (get_or cells p 0) ≡ b → step ask cells p ≡ step ask' cells p
      at true z = nests.asks ask ask' cells p l hp z (same z)
      at false z = nests.taken ask cells p z ∙ sym (nests.taken ask' cells p z)

  -- deep enough is deep enough
  pub nested-fuel : (n m : ℕ) (cells : List ℕ) (p : ℕ) → length cells ≡ 225 → p < 225 → empties cells ≤ n → empties cells ≤ m
      → nested_n rest step n cells p ≡ nested_n rest step m cells p
  unfolding nested_n
  nested-fuel zero zero cells p l hp a b = refl
  nested-fuel zero (suc m) cells p l hp a b = sym (full (nested_n rest step m) cells p l hp a)
  nested-fuel (suc n) zero cells p l hp a b = full (nested_n rest step n) cells p l hp b
  nested-fuel (suc n) (suc m) cells p l hp a b =
      step_same (nested_n rest step n) (nested_n rest step m) cells p l hp
      (λ z e he.
      let x = fewer cells p l hp z in
      nested-fuel n m (with_black cells p) e (length-set cells p 1 ∙ l) he (omega arith) (omega arith))

  -- any depth from the number of empty points on gives the answer
  pub nested-deep : (n : ℕ) (cells : List ℕ) (p : ℕ) → length cells ≡ 225 → p < 225 → empties cells ≤ n
      → nested_of rest step cells p ≡ nested_n rest step n cells p
  unfolding nested_of
  nested-deep n cells p l hp h = nested-fuel (empties cells) n cells p l hp (omega arith) h

  -- THE STEP: the question is answered by one step from its own answers
  pub nested-step : (cells : List ℕ) (p : ℕ) → length cells ≡ 225 → p < 225
      → nested_of rest step cells p ≡ step (nested_of rest step) cells p
  unfolding nested_n
  nested-step cells p l hp =
      nested-deep (suc (empties cells)) cells p l hp (omega arith)
      ∙ step_same (nested_n rest step (empties cells)) (nested_of rest step) cells p l hp
      (λ z e he.
      let x = fewer cells p l hp z in
      sym (nested-deep (empties cells) (with_black cells p) e (length-set cells p 1 ∙ l) he (omega arith)))

-- whether an eye is good is told by the board and by the answer there
pub eye-same : (ask ask' : Ask Verdict) (cells : List ℕ) (e : ℕ) → ask cells e ≡ ask' cells e → good_eye ask cells e ≡ good_eye ask' cells e
unfolding good_eye
eye-same ask ask' cells e q = ap (λ (v : Verdict). not (completes_five cells e) && is_none v) q

-- ---- the plain verdict asks only about the board with Black at p, at points of the board

module _ (cells : List ℕ) (p : ℕ) (hp : p < 225) (ask ask' : Ask Verdict) (same : (e : ℕ) → e < 225 → ask cells e ≡ ask' cells e) where
  real_same : (d j : ℕ) → d < 4 → T (is_real ask cells p d j) → T (is_real ask' cells p d j)
  unfolding is_real
  real_same d j hd u =
      let i = line_no d p in
      let a = any-elim 16 (λ e. eye_on Black Three cells d i j e && good_eye ask cells (point_at d i e)) u in
      let e = a.0 in
      let hi = eye-inside Black Three cells d i j e (and_left (eye_on Black Three cells d i j e) (good_eye ask cells (point_at d i e))
      a.2) in
      any-intro 16 (λ e. eye_on Black Three cells d i j e && good_eye ask' cells (point_at d i e)) e a.1
      (subst (λ (b : Bool). T (eye_on Black Three cells d i j e && b))
      (eye-same ask ask' cells (point_at d i e) (same (point_at d i e) (point-lt d i e hd (line-here d p hd hp) hi))) a.2)

  real-moves : (d j : ℕ) → d < 4 → T (real_threes ask cells p d j) → T (real_threes ask' cells p d j)
  unfolding real_threes
  real-moves d j hd u =
      and_intro (rows_through Black Three cells p d j) (is_real ask' cells p d j)
      (and_left (rows_through Black Three cells p d j) (is_real ask cells p d j) u)
      (real_same d j hd (and_right (rows_through Black Three cells p d j) (is_real ask cells p d j) u))

  pub real-more : T (more_than_one (real_threes ask cells p)) → T (more_than_one (real_threes ask' cells p))
  real-more u = more-mono (real_threes ask cells p) (real_threes ask' cells p) (λ d j hd hj. real-moves d j hd) u

module _ (cells : List ℕ) (p : ℕ) (hp : p < 225) (ask ask' : Ask Verdict)
    (same : (e : ℕ) → e < 225 → ask (with_black cells p) e ≡ ask' (with_black cells p) e) where
  pub plain-same : plain_with ask cells p ≡ plain_with ask' cells p
  unfolding plain_with is_double_three
  plain-same =
      ap
      (λ (b : Bool).
      cond (is_overline cells p) Overline
      (cond (is_double_four cells p) DoubleFour (cond (more_than_one (rows_through Black Two cells p) && b) DoubleThree None)))
      (both_ways (more_than_one (real_threes ask (with_black cells p) p)) (more_than_one (real_threes ask' (with_black cells p) p))
      (real-more (with_black cells p) p hp ask ask' same)
      (real-more (with_black cells p) p hp ask' ask (λ e he. sym (same e he))))

-- ---- the strict verdict

pub strict-nests : Nests None strict_with
unfolding strict_with
strict-nests =
    record {
      taken = λ ask cells p z. rw z;
      asks = λ ask ask' cells p l hp z same.
          rw z (ap (λ (x : Verdict). cond (completes_five cells p) None x) (plain-same cells p hp ask ask' same));
    }

pub fuel : (n m : ℕ) (cells : List ℕ) (p : ℕ) → length cells ≡ 225 → p < 225 → empties cells ≤ n → empties cells ≤ m
    → strict_n n cells p ≡ strict_n m cells p
unfolding strict_n
fuel n m cells p l hp a b = nested-fuel None strict_with strict-nests n m cells p l hp a b

-- THE STEP: the strict verdict by the plain one, the plain one by the strict one
pub strict_of-step : (cells : List ℕ) (p : ℕ) → length cells ≡ 225 → p < 225 → strict_of cells p ≡ strict_with strict_of cells p
unfolding strict_of
strict_of-step cells p l hp = nested-step None strict_with strict-nests cells p l hp

-- any depth from the number of empty points on gives the verdict
pub strict_of-deep : (n : ℕ) (cells : List ℕ) (p : ℕ) → length cells ≡ 225 → p < 225 → empties cells ≤ n
    → strict_of cells p ≡ strict_n n cells p
unfolding strict_of strict_n
strict_of-deep n cells p l hp h = nested-deep None strict_with strict-nests n cells p l hp h

-- the same, cell for cell as the paper has it
pub strict_of-plain : (cells : List ℕ) (p : ℕ) → length cells ≡ 225 → p < 225
    → strict_of cells p ≡ cond (is_empty (get_or cells p 0)) (cond (completes_five cells p) None (plain_of cells p)) None
unfolding strict_with plain_of
strict_of-plain cells p l hp = strict_of-step cells p l hp
