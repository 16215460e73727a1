-- Laws of tokens: a text is its first token and what is behind it, whatever the count that the definition runs by. Assumes nothing.
use mathlib.Core.Path.{◌≡◌, refl, ap, sym, ◌∙◌}
use mathlib.Core.Bool.{Bool, true, false, not, ◌&&◌, cond}
use mathlib.Core.List.{List, [], ◌∷◌, ◌++◌}
use Prim.Native.Nat.{ℕ, zero, suc, ◌+◌, ◌≤◌}
use native.Mathlib.Nat.{le_refl}
use native.Mathlib.Omega.{arith}
use lib.Dec.{eqb}
use lib.ListN.{length, take, drop, length-append, length-take, length-drop, take-append-drop}
use lib.Pointwise.{pointwise}
use lib.Seq.{drop-nil, drop-drop}
use borrow.Author.Tests.{eq-eqb, eqb-true}
use Rattle.rules.specs.Cases.{same}
use Rattle.rules.proofs.Logic.{no_true}
use Rattle.lent.specs.Slices.{first_at, find_at}
use Rattle.text.specs.Bytes.{trim_start, has, leading}
use Rattle.text.proofs.Places.{trim_start_lem}
use Rattle.sgf.specs.Tokens.{open_bracket, close_bracket, capital, value_length, name_length, token_length, first_token, behind_token}
use Rattle.sgf.specs.Tokens.{behind_three, tokens_up_to, tokens_of, token_at}

-- ---- two lists that are the same

pub same_refl : (l : List ℕ) → same l l ≡ true
same_refl [] = refl
same_refl (a ∷ l) = rw (eq-eqb a a refl) (same_refl l)

pub same-eq : (a b : List ℕ) → same a b ≡ true → a ≡ b
same-eq [] [] e = refl
same-eq [] (y ∷ b) e = absurd (no_true e)
same-eq (x ∷ a) [] e = absurd (no_true e)
same-eq (x ∷ a) (y ∷ b) e = go (eqb x y) refl e (same-eq a b)
  where
    go : (t : Bool) → eqb x y ≡ t → (t && same a b) ≡ true → (same a b ≡ true → a ≡ b) → x ∷ a ≡ y ∷ b
    go true q e r = rw (eqb-true x y q, r e)
    go false q e r = absurd (no_true e)

-- the library's test of two slices
pub same-pointwise : (a b : List ℕ) → pointwise eqb a b ≡ same a b
same-pointwise [] [] = refl
same-pointwise [] (y ∷ b) = refl
same-pointwise (x ∷ a) [] = refl
same-pointwise (x ∷ a) (y ∷ b) = ap (λ (t : Bool). eqb x y && t) (same-pointwise a b)

-- ---- one token

-- it has a byte at least
pub length_some : (b : ℕ) (s : List ℕ) → 1 ≤ token_length (b ∷ s)
unfolding token_length value_length name_length first_at
length_some b s =
    go (eqb b open_bracket) (has close_bracket (b ∷ s)) (capital b) (find_at close_bracket (b ∷ s)) (first_at (λ b. not (capital b)) s)
  where
    go : (x y z : Bool) (k m : ℕ) → 1 ≤ cond x (cond y (suc k) 1) (cond z (cond (not z) 0 (suc m)) 1)
    go true true z k m = omega arith
    go true false z k m = omega arith
    go false y true k m = omega arith
    go false y false k m = omega arith

-- the token and what is behind it are the text without the white space in front
pub token-parts : (s : List ℕ) → first_token s ++ behind_token s ≡ trim_start s
unfolding first_token behind_token
token-parts s = take-append-drop (token_length (trim_start s)) (trim_start s)

pub parts-le : (s : List ℕ) → length (first_token s) + length (behind_token s) ≤ length s
parts-le s =
    let parts = ap length (token-parts s) in
    let start = ap length (trim_start_lem s) in
    omega (arith, length-append (first_token s) (behind_token s), length-drop (leading s) s)

-- where there is none, only white space was left
pub no-token : (s : List ℕ) → length (first_token s) ≡ 0 → trim_start s ≡ []
unfolding first_token
no-token s e = go (trim_start s) e
  where
    go : (t : List ℕ) → length (take (token_length t) t) ≡ 0 → t ≡ []
    go [] e = refl
    go (b ∷ t) e = absurd (omega (arith, length-take (token_length (b ∷ t)) (b ∷ t), length_some b t))

no_bytes : (l : List ℕ) → length l ≡ 0 → l ≡ []
no_bytes [] e = refl
no_bytes (a ∷ l) e = absurd (omega arith)

nothing-behind : (s : List ℕ) → length (first_token s) ≡ 0 → behind_token s ≡ []
unfolding behind_token
nothing-behind s e = rw (no-token s e) (drop-nil (token_length []))

-- ---- all tokens

-- the count that the definition runs by does not matter where it is no less than the bytes
fuel : (m n : ℕ) (s : List ℕ) → length s ≤ m → length s ≤ n → tokens_up_to m s ≡ tokens_up_to n s
unfolding tokens_up_to
fuel zero zero s g h = refl
fuel zero (suc n) s g h = rw (eq-eqb (length (first_token s)) 0 (omega (arith, parts-le s)))
fuel (suc m) zero s g h = rw (eq-eqb (length (first_token s)) 0 (omega (arith, parts-le s)))
fuel (suc m) (suc n) s g h = go (eqb (length (first_token s)) 0) refl (fuel m n (behind_token s))
  where
    some : (k : ℕ) → eqb k 0 ≡ false → 1 ≤ k
    some zero e = absurd (no_true (sym e))
    some (suc k) e = omega arith

    go : (t : Bool) → eqb (length (first_token s)) 0 ≡ t
        → (length (behind_token s) ≤ m → length (behind_token s) ≤ n → tokens_up_to m (behind_token s) ≡ tokens_up_to n (behind_token s))
        → cond t [] (first_token s ∷ tokens_up_to m (behind_token s)) ≡ cond t [] (first_token s ∷ tokens_up_to n (behind_token s))
    go true q r = refl
    go false q r =
        let k = some (length (first_token s)) q in
        let p = parts-le s in
        ap (λ (l : List (List ℕ)). first_token s ∷ l) (r (omega arith) (omega arith))

-- The tokens of a text are its first token and those of what is behind it; none where only white space is left.
pub tokens-step : (s : List ℕ)
    → tokens_of s ≡ cond (eqb (length (first_token s)) 0) [] (first_token s ∷ tokens_of (behind_token s))
unfolding tokens_of tokens_up_to
tokens-step s =
    let p = parts-le s in
    fuel (length s) (suc (length s)) s (omega arith) (omega arith)
    ∙ ap (λ (l : List (List ℕ)). cond (eqb (length (first_token s)) 0) [] (first_token s ∷ l))
    (fuel (length s) (length (behind_token s)) (behind_token s) (omega arith) (le_refl (length (behind_token s))))

pub tokens_none : tokens_of [] ≡ []
unfolding tokens_of tokens_up_to
tokens_none = refl

-- the first token, and those behind it
pub first_of : (s : List ℕ) → token_at (tokens_of s) 0 ≡ first_token s
first_of s = rw (tokens-step s) (go (eqb (length (first_token s)) 0) refl)
  where
    go : (t : Bool) → eqb (length (first_token s)) 0 ≡ t → token_at (cond t [] (first_token s ∷ tokens_of (behind_token s))) 0 ≡ first_token s
    go true q = sym (no_bytes (first_token s) (eqb-true (length (first_token s)) 0 q))
    go false q = refl

pub behind-of : (s : List ℕ) → drop 1 (tokens_of s) ≡ tokens_of (behind_token s)
behind-of s = rw (tokens-step s) (go (eqb (length (first_token s)) 0) refl)
  where
    go : (t : Bool) → eqb (length (first_token s)) 0 ≡ t
        → drop 1 (cond t [] (first_token s ∷ tokens_of (behind_token s))) ≡ tokens_of (behind_token s)
    go true q = sym (ap tokens_of (nothing-behind s (eqb-true (length (first_token s)) 0 q)) ∙ tokens_none)
    go false q = refl

-- the second and the third, and those behind three
at_next : (l : List (List ℕ)) (k : ℕ) → token_at l (suc k) ≡ token_at (drop 1 l) k
at_next [] k = refl
at_next (a ∷ l) k = refl

pub second-of : (s : List ℕ) → token_at (tokens_of s) 1 ≡ first_token (behind_token s)
second-of s = at_next (tokens_of s) 0 ∙ ap (λ (l : List (List ℕ)). token_at l 0) (behind-of s) ∙ first_of (behind_token s)

pub third_of : (s : List ℕ) → token_at (tokens_of s) 2 ≡ first_token (behind_token (behind_token s))
third_of s = at_next (tokens_of s) 1 ∙ ap (λ (l : List (List ℕ)). token_at l 1) (behind-of s) ∙ second-of (behind_token s)

-- .. by what is behind the first, and behind that
pub second_at : (s t : List ℕ) → t ≡ behind_token s → first_token t ≡ token_at (tokens_of s) 1
second_at s t e = ap first_token e ∙ sym (second-of s)

pub third_at : (s t u : List ℕ) → t ≡ behind_token s → u ≡ behind_token t → first_token u ≡ token_at (tokens_of s) 2
third_at s t u e f = ap first_token (f ∙ ap behind_token e) ∙ sym (third_of s)

by_one : (l : List (List ℕ)) → drop 3 l ≡ drop 1 (drop 1 (drop 1 l))
by_one [] = refl
by_one (a ∷ []) = refl
by_one (a ∷ b ∷ []) = refl
by_one (a ∷ b ∷ c ∷ l) = refl

pub behind-three-of : (s : List ℕ) → drop 3 (tokens_of s) ≡ tokens_of (behind_three s)
behind-three-of s =
    by_one (tokens_of s) ∙ ap (λ (l : List (List ℕ)). drop 1 (drop 1 l)) (behind-of s)
    ∙ ap (λ (l : List (List ℕ)). drop 1 l) (behind-of (behind_token s)) ∙ behind-of (behind_token (behind_token s))

pub behind-six-of : (s : List ℕ) → drop 6 (tokens_of s) ≡ tokens_of (behind_three (behind_three s))
behind-six-of s =
    sym (drop-drop 3 3 (tokens_of s)) ∙ ap (λ (l : List (List ℕ)). drop 3 l) (behind-three-of s) ∙ behind-three-of (behind_three s)

pub three-le : (s : List ℕ) → length (behind_three s) ≤ length s
three-le s = omega (arith, parts-le s, parts-le (behind_token s), parts-le (behind_token (behind_token s)))
