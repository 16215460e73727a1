-- Laws of the text that is written: its tokens one behind the other, six bytes a move, 14 + 6 n in all. Assumes nothing.
use mathlib.Core.Path.{◌≡◌, refl, ap, sym, ◌∙◌}
use mathlib.Core.List.{List, [], ◌∷◌, ◌++◌, append-nil, append_assoc}
use Prim.Native.Nat.{ℕ, zero, suc, ◌+◌, ◌*◌, ◌≤◌, ◌<◌}
use native.Mathlib.Nat.{not-suc-le-zero, le_of_suc-le-suc}
use native.Mathlib.Numerals.{add-one}
use native.Mathlib.Omega.{arith}
use lib.ListN.{length, get_or, take, length-append}
use lib.Seq.{take_all, length-take-le}
use Rattle.lent.specs.Lists.{kept}
use Rattle.lent.proofs.Laws.{kept_lem}
use Rattle.sgf.specs.Tokens.{joined}
use Rattle.sgf.specs.Games.{closes, mover, point_value, move_tokens, game_tokens, sgf_text, moves_text, move_text}

-- ---- tokens one behind the other

pub joined-append : (ts us : List (List ℕ)) → joined (ts ++ us) ≡ joined ts ++ joined us
unfolding joined
joined-append [] us = refl
joined-append (t ∷ ts) us = ap (λ (l : List ℕ). t ++ l) (joined-append ts us) ∙ sym (append_assoc t (joined ts) (joined us))

-- ---- the moves

pub moves-none : (n : ℕ) → moves_text n [] ≡ []
unfolding joined move_tokens
moves-none n = refl

pub moves-cons : (n p : ℕ) (moves : List ℕ) → moves_text n (p ∷ moves) ≡ move_text n p ++ moves_text (suc n) moves
unfolding joined move_tokens move_text point_value
moves-cons n p moves = refl

pub move-length : (n p : ℕ) → length (move_text n p) ≡ 6
unfolding move_text point_value
move-length n p = refl

pub moves-length : (n : ℕ) (moves : List ℕ) → length (moves_text n moves) ≡ 6 * length moves
moves-length n [] = ap length (moves-none n)
moves-length n (p ∷ moves) =
    let e = ap length (moves-cons n p moves) ∙ length-append (move_text n p) (moves_text (suc n) moves) in
    let r = moves-length (suc n) moves in
    omega (arith, move-length n p)

-- one move more, behind the first i
more : (n i : ℕ) (moves : List ℕ) → i < length moves
    → moves_text n (take (suc i) moves) ≡ moves_text n (take i moves) ++ move_text (n + i) (get_or moves i 0)
more n i [] h = absurd (not-suc-le-zero h)
more n zero (p ∷ moves) h =
    let z : n ≡ n + 0 = omega arith in
    moves-cons n p [] ∙ ap (λ (l : List ℕ). move_text n p ++ l) (moves-none (suc n)) ∙ append-nil (move_text n p)
    ∙ ap (λ (k : ℕ). move_text k p) z ∙ sym (ap (λ (l : List ℕ). l ++ move_text (n + 0) p) (moves-none n))
more n (suc i) (p ∷ moves) h =
    let z : suc n + i ≡ n + suc i = omega arith in
    moves-cons n p (take (suc i) moves) ∙ ap (λ (l : List ℕ). move_text n p ++ l) (more (suc n) i moves (le_of_suc-le-suc h))
    ∙ sym (append_assoc (move_text n p) (moves_text (suc n) (take i moves)) (move_text (suc n + i) (get_or moves i 0)))
    ∙ ap (λ (l : List ℕ). l ++ move_text (suc n + i) (get_or moves i 0)) (sym (moves-cons n p (take i moves)))
    ∙ ap (λ (k : ℕ). moves_text n (p ∷ take i moves) ++ move_text k (get_or moves i 0)) z

pub text-more : (i : ℕ) (moves : List ℕ) → i < length moves
    → moves_text 0 (take i moves) ++ move_text i (get_or moves i 0) ≡ moves_text 0 (take (i + 1) moves)
text-more i moves h =
    let z : 0 + i ≡ i = omega arith in
    sym (ap (λ (k : ℕ). moves_text 0 (take k moves)) (add-one i) ∙ more 0 i moves h
    ∙ ap (λ (k : ℕ). moves_text 0 (take i moves) ++ move_text k (get_or moves i 0)) z)

-- ---- the whole text

-- the front, 13 bytes, the moves, and the end
abbrev pub front_text : List ℕ
front_text = 40 ∷ 59 ∷ 71 ∷ 77 ∷ 91 ∷ 52 ∷ 93 ∷ 83 ∷ 90 ∷ 91 ∷ 49 ∷ 53 ∷ 93 ∷ []

pub text-parts : (moves : List ℕ) → sgf_text moves ≡ front_text ++ (moves_text 0 moves ++ closes)
unfolding sgf_text game_tokens joined
text-parts moves =
    ap (λ (l : List ℕ). front_text ++ l) (joined-append (move_tokens 0 moves) (closes ∷ []))

-- "the length written is 14 + 6 n"
pub text-length : (moves : List ℕ) → length (sgf_text moves) ≡ 14 + 6 * length moves
text-length moves =
    let e = ap length (text-parts moves) in
    omega (arith, length-append (moves_text 0 moves) closes, moves-length 0 moves)

-- "H8 alone as `(;GM[4]SZ[15];B[hh])`"; A1 is `ao`, O15 is `oa`
pub one-game : sgf_text (112 ∷ []) ≡ front_text ++ (59 ∷ 66 ∷ 91 ∷ 104 ∷ 104 ∷ 93 ∷ 41 ∷ [])
unfolding sgf_text game_tokens joined move_tokens mover point_value
one-game = refl

pub corners : (point_value 0 ≡ 91 ∷ 97 ∷ 111 ∷ 93 ∷ []) × (point_value 224 ≡ 91 ∷ 111 ∷ 97 ∷ 93 ∷ [])
unfolding point_value
corners = (refl, refl)

-- ---- kept part by part: the front, the moves, the end
module _ (moves : List ℕ) (room : length moves ≤ 225) where
  pub text-none : (text : List ℕ) → text ≡ kept 1364 [] front_text → text ≡ front_text ++ moves_text 0 (take 0 moves)
  text-none text k =
      k ∙ kept_lem 1364 [] front_text (omega arith) ∙ sym (append-nil front_text)
      ∙ ap (λ (l : List ℕ). front_text ++ l) (sym (moves-none 0))

  pub text_more : (i : ℕ) → i < length moves → (text : List ℕ) → text ≡ front_text ++ moves_text 0 (take i moves) → (new : List ℕ)
      → new ≡ kept 1364 text (move_text i (get_or moves i 0)) → new ≡ front_text ++ moves_text 0 (take (i + 1) moves)
  text_more i h text e new k =
      let so_far = moves-length 0 (take i moves) in
      let shown = length-take-le i moves (omega arith) in
      let long = ap length e ∙ length-append front_text (moves_text 0 (take i moves)) in
      let item = move_text i (get_or moves i 0) in
      k ∙ kept_lem 1364 text item (omega (arith, move-length i (get_or moves i 0)))
      ∙ ap (λ (l : List ℕ). l ++ item) e ∙ append_assoc front_text (moves_text 0 (take i moves)) item
      ∙ ap (λ (l : List ℕ). front_text ++ l) (text-more i moves h)

  pub text-done : (i : ℕ) → i ≡ length moves → (text : List ℕ) → text ≡ front_text ++ moves_text 0 (take i moves) → (new : List ℕ)
      → new ≡ kept 1364 text closes → new ≡ sgf_text moves
  text-done i z text e new k =
      let whole = e ∙ ap (λ (l : List ℕ). front_text ++ moves_text 0 l) (take_all i moves (omega arith)) in
      let long = ap length whole ∙ length-append front_text (moves_text 0 moves) in
      k ∙ kept_lem 1364 text closes (omega (arith, moves-length 0 moves)) ∙ ap (λ (l : List ℕ). l ++ closes) whole
      ∙ append_assoc front_text (moves_text 0 moves) closes ∙ sym (text-parts moves)
