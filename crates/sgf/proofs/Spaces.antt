-- White space around tokens changes nothing: a text that is made of tokens, with any white space before, between and behind them, has just
-- these tokens, as long as two names do not touch. Assumes nothing.
use mathlib.Core.Path.{◌≡◌, refl, ap, sym, ◌∙◌}
use mathlib.Core.Bool.{Bool, true, false, ◌&&◌, cond}
use mathlib.Core.List.{List, [], ◌∷◌, ◌++◌}
use Prim.Native.Nat.{ℕ, zero, suc, ◌≤◌}
use native.Mathlib.Omega.{arith}
use lib.Dec.{leb}
use lib.ListN.{length, get_or, take, drop}
use lib.Seq.{take_at, drop_at}
use borrow.Author.Tests.{eq-eqb, ne_eqb, leb-true, lt-leb}
use Rattle.rules.proofs.Logic.{no_true}
use Rattle.text.specs.Bytes.{blank, capital_a, space, trim_start}
use Rattle.sgf.specs.Tokens.{capital, capital_z, token_length, first_token, behind_token, tokens_of, joined, spread}
use Rattle.sgf.proofs.Tokens.{tokens-step}

-- ---- what is claimed

-- white space alone: nothing is left of it without the white space in front
abbrev pub WhiteSpace : List ℕ → Type 0
WhiteSpace g = trim_start g ≡ []

-- a name before a text that begins with a capital letter
abbrev pub touch : List ℕ → List ℕ → Bool
touch t rest = capital (get_or t 0 0) && capital (get_or rest 0 0)

-- A token: bytes that begin with no white space, and that are the token in front of whatever text they begin, where no name goes on.
pub record Token (t : List ℕ) : Type 0 where
  pub some : 1 ≤ length t
  pub starts : space (get_or t 0 0) ≡ false
  pub ends : (rest : List ℕ) → touch t rest ≡ false → token_length (t ++ rest) ≡ length t

-- tokens of which no two that stand together are both names
pub data Tokens : List (List ℕ) → Type 0 where
  none : Tokens []
  one : (t : List ℕ) → Token t → Tokens (t ∷ [])
  more : (t u : List ℕ) (ts : List (List ℕ)) → Token t → touch t u ≡ false → Tokens (u ∷ ts) → Tokens (t ∷ u ∷ ts)

-- ---- white space in front

pub start-behind : (g s : List ℕ) → WhiteSpace g → trim_start (g ++ s) ≡ trim_start s
unfolding trim_start
start-behind [] s e = refl
start-behind (b ∷ g) s e = go (space b) e (start-behind g s)
  where
    go : (t : Bool) → cond t (trim_start g) (b ∷ g) ≡ [] → (WhiteSpace g → trim_start (g ++ s) ≡ trim_start s)
        → cond t (trim_start (g ++ s)) (b ∷ (g ++ s)) ≡ trim_start s
    go true e r = r e
    go false e r = absurd (let n = ap length e in omega arith)

start-same : (t rest : List ℕ) → 1 ≤ length t → space (get_or t 0 0) ≡ false → trim_start (t ++ rest) ≡ t ++ rest
unfolding trim_start
start-same [] rest h e = absurd (omega arith)
start-same (b ∷ t) rest h e = rw e

-- ---- a name does not go on in white space, nor in a token that it does not touch

and-false : (x : Bool) → (x && false) ≡ false
and-false true = refl
and-false false = refl

not-blank : (b : ℕ) → capital_a ≤ b → space b ≡ false
unfolding space
not-blank b h = rw (ne_eqb b blank (λ z. omega arith), lt-leb b 13 (omega arith)) (and-false (leb 9 b))

blank-small : (b : ℕ) → space b ≡ true → capital b ≡ false
unfolding capital
blank-small b e = go (leb capital_a b) refl
  where
    go : (x : Bool) → leb capital_a b ≡ x → (x && leb b capital_z) ≡ false
    go true q = absurd (no_true (sym (not-blank b (leb-true capital_a b q)) ∙ e))
    go false q = refl

white-first : (b : ℕ) (g : List ℕ) → WhiteSpace (b ∷ g) → space b ≡ true
unfolding trim_start
white-first b g e = go (space b) e
  where
    go : (x : Bool) → cond x (trim_start g) (b ∷ g) ≡ [] → x ≡ true
    go true e = refl
    go false e = absurd (let n = ap length e in omega arith)

no_zero : capital 0 ≡ false
unfolding capital
no_zero = refl

-- white space, and whatever stands behind it
apart-space : (t : List ℕ) (b : ℕ) (g rest : List ℕ) → WhiteSpace (b ∷ g) → touch t ((b ∷ g) ++ rest) ≡ false
apart-space t b g rest e = rw (blank-small b (white-first b g e)) (and-false (capital (get_or t 0 0)))

-- the end of the text
apart-end : (t g : List ℕ) → WhiteSpace g → touch t g ≡ false
apart-end t [] e = rw no_zero (and-false (capital (get_or t 0 0)))
apart-end t (b ∷ g) e = rw (blank-small b (white-first b g e)) (and-false (capital (get_or t 0 0)))

-- a token that it does not touch, with white space before it or without
first_byte : (u rest : List ℕ) → 1 ≤ length u → get_or (u ++ rest) 0 0 ≡ get_or u 0 0
first_byte [] rest h = absurd (omega arith)
first_byte (b ∷ u) rest h = refl

apart-token : (t g u rest : List ℕ) → WhiteSpace g → 1 ≤ length u → touch t u ≡ false → touch t (g ++ (u ++ rest)) ≡ false
apart-token t [] u rest e h apart = rw (first_byte u rest h) apart
apart-token t (b ∷ g) u rest e h apart = apart-space t b g (u ++ rest) e

-- ---- one token

-- A token with white space in front of it is the first token, and what stands behind it is what is left.
module _ (g t rest : List ℕ) (white : WhiteSpace g) (token : Token t) (apart : touch t rest ≡ false) where
  start : trim_start (g ++ (t ++ rest)) ≡ t ++ rest
  start = start-behind g (t ++ rest) white ∙ start-same t rest token.some token.starts

  is-first : first_token (g ++ (t ++ rest)) ≡ t
  unfolding first_token
  is-first =
      ap (λ (l : List ℕ). take (token_length l) l) start
      ∙ take_at t rest (token_length (t ++ rest)) (sym (token.ends rest apart))

  is-behind : behind_token (g ++ (t ++ rest)) ≡ rest
  unfolding behind_token
  is-behind =
      ap (λ (l : List ℕ). drop (token_length l) l) start
      ∙ drop_at t rest (token_length (t ++ rest)) (sym (token.ends rest apart))

  pub one_token : tokens_of (g ++ (t ++ rest)) ≡ t ∷ tokens_of rest
  one_token =
      let some = token.some in
      let long = ap length is-first in
      tokens-step (g ++ (t ++ rest))
      ∙ rw (ne_eqb (length (first_token (g ++ (t ++ rest)))) 0 (λ z. omega arith), is-first, is-behind)

-- white space alone has no token
pub no-tokens : (g : List ℕ) → WhiteSpace g → tokens_of g ≡ []
unfolding first_token
no-tokens g e =
    tokens-step g ∙ rw (eq-eqb (length (first_token g)) 0 (ap (λ (l : List ℕ). length (take (token_length l) l)) e ∙ none_of (token_length [])))
  where
    none_of : (n : ℕ) → length (take {A = ℕ} n []) ≡ 0
    none_of zero = refl
    none_of (suc n) = refl

-- the first of some tokens has a byte
first_some : {u : List ℕ} {ts : List (List ℕ)} → Tokens (u ∷ ts) → 1 ≤ length u
first_some (one t token) = token.some
first_some (more t u ts token apart others) = token.some

-- ---- THE LAW: tokens with white space around them, gap by gap, from gap k on

pub spaces-around : (gap : ℕ → List ℕ) → ((k : ℕ) → WhiteSpace (gap k)) → {ts : List (List ℕ)} → Tokens ts → (k : ℕ)
    → tokens_of (spread gap k ts) ≡ ts
unfolding spread
spaces-around gap white none k = no-tokens (gap k) (white k)
spaces-around gap white (one t token) k =
    one_token (gap k) t (gap (suc k)) (white k) token (apart-end t (gap (suc k)) (white (suc k)))
    ∙ ap (λ (ts : List (List ℕ)). t ∷ ts) (no-tokens (gap (suc k)) (white (suc k)))
spaces-around gap white (more t u ts token apart others) k =
    one_token (gap k) t (gap (suc k) ++ (u ++ spread gap (suc (suc k)) ts)) (white k) token
    (apart-token t (gap (suc k)) u (spread gap (suc (suc k)) ts) (white (suc k)) (first_some others) apart)
    ∙ ap (λ (us : List (List ℕ)). t ∷ us) (spaces-around gap white others (suc k))

-- without any gap: tokens one behind the other
abbrev pub no_gap : ℕ → List ℕ
no_gap k = []

pub no_gap_lem : (k : ℕ) (ts : List (List ℕ)) → spread no_gap k ts ≡ joined ts
unfolding spread joined
no_gap_lem k [] = refl
no_gap_lem k (t ∷ ts) = ap (λ (l : List ℕ). t ++ l) (no_gap_lem (suc k) ts)

pub no-space : (k : ℕ) → WhiteSpace (no_gap k)
unfolding trim_start
no-space k = refl

pub joined-tokens : {ts : List (List ℕ)} → Tokens ts → tokens_of (joined ts) ≡ ts
joined-tokens {ts} tokens = ap tokens_of (sym (no_gap_lem 0 ts)) ∙ spaces-around no_gap no-space tokens 0
