-- Laws of a game's tokens as the code reads them: three by three, then the end. Assumes nothing.
use mathlib.Core.Path.{◌≡◌, refl, ap, ap₂, sym, subst, ◌∙◌}
use mathlib.Core.Bool.{Bool, true, false, ◌&&◌, cond}
use mathlib.Core.List.{List, [], ◌∷◌, ◌++◌, append-nil, append_assoc}
use Prim.Native.Nat.{ℕ, suc, ◌+◌, ◌*◌, ◌≤◌, ◌<◌}
use native.Mathlib.Omega.{arith}
use lib.Dec.{eqb, leb, ltb}
use lib.ListN.{length, get_or, drop, length-append}
use borrow.Author.Tests.{eqb-true, ltb-true, ne_eqb, eq-eqb}
use Rattle.std.specs.Prelude.{Option, Some, None, Result, Ok, Err}
use Rattle.rules.specs.Answers.{answer, refusal_named}
use Rattle.rules.specs.declared.refusal.Refusal.{Refusal}
use Rattle.rules.specs.declared.refusal.Refusal.TheVariants.{OutsideSubset, ManyMoves}
use Rattle.rules.specs.Refusals.{many_moves, outside_subset, unless, first}
use Rattle.rules.specs.Cases.{same}
use Rattle.rules.proofs.Logic.{no_true}
use Rattle.lent.specs.Lists.{kept}
use Rattle.lent.proofs.Laws.{kept_lem}
use Rattle.text.specs.Bytes.{text_refusal}
use Rattle.sgf.specs.Tokens.{open_bracket, close_bracket, first_token, behind_token, behind_three, tokens_of, token_at}
use Rattle.sgf.specs.Games.{closes, node, mover, letter_no, is_point, is_front, is_move, move_in_front, move_read, point_read, point_of, moves_from, behind_moves}
use Rattle.sgf.specs.Games.{is_end, is_game, end_refusal, moves_in, game_refusal, sgf_refusal, sgf_moves}
use Rattle.sgf.proofs.Tokens.{same-eq, parts-le, tokens-step, first_of, second-of, third_of, behind-three-of, behind-six-of}

-- ---- the parts of a passed test

pub both : (a b : Bool) → (a && b) ≡ true → (a ≡ true) × (b ≡ true)
both true b e = (refl, e)
both false b e = absurd (no_true e)

pub three : (a b c : Bool) → (a && (b && c)) ≡ true → (a ≡ true) × (b ≡ true) × (c ≡ true)
three a b c e = let (x, y) = both a (b && c) e in let (u, v) = both b c y in (x, u, v)

-- the value of a move: how long it is, and its letters
module _ (t : List ℕ) (e : is_point t ≡ true) where
  pub point-length : length t ≡ 4
  unfolding is_point
  point-length =
      eqb-true (length t) 4 (both (eqb (length t) 4) (eqb (get_or t 0 0) open_bracket && (eqb (get_or t 3 0) close_bracket
      && (ltb (letter_no (get_or t 1 0)) 15 && ltb (letter_no (get_or t 2 0)) 15))) e).0

  pub point-brackets : (get_or t 0 0 ≡ open_bracket) × (get_or t 3 0 ≡ close_bracket)
  unfolding is_point
  point-brackets =
      let letters = ltb (letter_no (get_or t 1 0)) 15 && ltb (letter_no (get_or t 2 0)) 15 in
      let tests = three (eqb (length t) 4) (eqb (get_or t 0 0) open_bracket) (eqb (get_or t 3 0) close_bracket && letters) e in
      (eqb-true (get_or t 0 0) open_bracket tests.1, eqb-true (get_or t 3 0) close_bracket (both (eqb (get_or t 3 0) close_bracket) letters tests.2).0)

  pub point-letters : (letter_no (get_or t 1 0) < 15) × (letter_no (get_or t 2 0) < 15)
  unfolding is_point
  point-letters =
      let column = ltb (letter_no (get_or t 1 0)) 15 in
      let row = ltb (letter_no (get_or t 2 0)) 15 in
      let in-brackets = (three (eqb (length t) 4) (eqb (get_or t 0 0) open_bracket) (eqb (get_or t 3 0) close_bracket && (column && row)) e).2 in
      let letters = three (eqb (get_or t 3 0) close_bracket) column row in-brackets in
      (ltb-true (letter_no (get_or t 1 0)) 15 letters.1, ltb-true (letter_no (get_or t 2 0)) 15 letters.2)

-- a move: its three tokens
module _ (n : ℕ) (a b c : List ℕ) (e : is_move n a b c ≡ true) where
  move-three : (same a node ≡ true) × (same b (mover n ∷ []) ≡ true) × (is_point c ≡ true)
  unfolding is_move
  move-three = three (same a node) (same b (mover n ∷ [])) (is_point c) e

  pub move-node : a ≡ node
  move-node = same-eq a node move-three.0

  pub move-name : b ≡ mover n ∷ []
  move-name = same-eq b (mover n ∷ []) move-three.1

  pub move-value : is_point c ≡ true
  move-value = move-three.2

-- ---- moves in front

-- no move without three tokens
no-first : (n : ℕ) (b c : List ℕ) → is_move n [] b c ≡ false
unfolding is_move
no-first n b c = refl

no_second : (n : ℕ) (a c : List ℕ) → is_move n a [] c ≡ false
unfolding is_move
no_second n a c = go (same a node)
  where
    go : (x : Bool) → (x && false) ≡ false
    go true = refl
    go false = refl

no_third : (n : ℕ) (a b : List ℕ) → is_move n a b [] ≡ false
unfolding is_move is_point
no_third n a b = go (same a node) (same b (mover n ∷ []))
  where
    go : (x y : Bool) → (x && (y && false)) ≡ false
    go true true = refl
    go true false = refl
    go false y = refl

-- one more
pub moves_more : (n : ℕ) (ts : List (List ℕ)) → move_in_front n ts ≡ true
    → (moves_from n ts ≡ point_of (token_at ts 2) ∷ moves_from (suc n) (drop 3 ts)) × (behind_moves n ts ≡ behind_moves (suc n) (drop 3 ts))
unfolding moves_from behind_moves
moves_more n [] e = absurd (no_true (sym (no-first n [] []) ∙ e))
moves_more n (a ∷ []) e = absurd (no_true (sym (no_second n a []) ∙ e))
moves_more n (a ∷ b ∷ []) e = absurd (no_true (sym (no_third n a b) ∙ e))
moves_more n (a ∷ b ∷ c ∷ ts) e = (rw e, rw e)

-- none
pub moves-done : (n : ℕ) (ts : List (List ℕ)) → move_in_front n ts ≡ false → (moves_from n ts ≡ []) × (behind_moves n ts ≡ ts)
unfolding moves_from behind_moves
moves-done n [] e = (refl, refl)
moves-done n (a ∷ []) e = (refl, refl)
moves-done n (a ∷ b ∷ []) e = (refl, refl)
moves-done n (a ∷ b ∷ c ∷ ts) e = (rw e, rw e)

-- a move that is read, and none
pub read-some : (n : ℕ) (ts : List (List ℕ)) (code : ℕ) → move_read n ts ≡ Some code
    → (move_in_front n ts ≡ true) × (code ≡ point_of (token_at ts 2))
unfolding move_read
read-some n ts code e = go (move_in_front n ts) refl e
  where
    go : (t : Bool) → move_in_front n ts ≡ t → cond t (Some (point_of (token_at ts 2))) None ≡ Some code
        → (move_in_front n ts ≡ true) × (code ≡ point_of (token_at ts 2))
    go true z p = (z, cc)
    go false z p = absurd cc

pub read-none : (n : ℕ) (ts : List (List ℕ)) → move_read n ts ≡ None → move_in_front n ts ≡ false
unfolding move_read
read-none n ts e = go (move_in_front n ts) refl e
  where
    go : (t : Bool) → move_in_front n ts ≡ t → cond t (Some (point_of (token_at ts 2))) None ≡ None → move_in_front n ts ≡ false
    go true z p = absurd cc
    go false z p = z

-- .. token by token
pub move-told : (n : ℕ) (s name value : List ℕ) → name ≡ behind_token s → value ≡ behind_token name
    → move_read n (tokens_of s)
    ≡ cond (same (first_token s) node && same (first_token name) (mover n ∷ [])) (point_read (first_token value)) None
unfolding move_read is_move point_read
move-told n s name value en ev =
    rw (first_of s, second-of s, third_of s, ev, en)
    (go (same (first_token s) node) (same (first_token (behind_token s)) (mover n ∷ []))
    (is_point (first_token (behind_token (behind_token s)))))
  where
    go : (a b p : Bool)
        → cond (a && (b && p)) (Some (point_of (first_token (behind_token (behind_token s))))) None
        ≡ cond (a && b) (cond p (Some (point_of (first_token (behind_token (behind_token s))))) None) None
    go true true p = refl
    go true false p = refl
    go false b p = refl

-- a move has six bytes at least
pub move-bytes : (n : ℕ) (s : List ℕ) → move_in_front n (tokens_of s) ≡ true → 6 + length (behind_three s) ≤ length s
move-bytes n s e =
    let ts = tokens_of s in
    let a = ap length (sym (first_of s) ∙ move-node n (token_at ts 0) (token_at ts 1) (token_at ts 2) e) in
    let b = ap length (sym (second-of s) ∙ move-name n (token_at ts 0) (token_at ts 1) (token_at ts 2) e) in
    let c = ap length (sym (third_of s)) ∙ point-length (token_at ts 2) (move-value n (token_at ts 0) (token_at ts 1) (token_at ts 2) e) in
    omega (arith, parts-le s, parts-le (behind_token s), parts-le (behind_token (behind_token s)))

-- ---- the end

pub end-told : (s : List ℕ) → (same (first_token s) closes && eqb (length (first_token (behind_token s))) 0) ≡ is_end (tokens_of s)
unfolding is_end
end-told s =
    let f = first_token s in
    let g = first_token (behind_token s) in
    rw (tokens-step s, tokens-step (behind_token s)) (go f (eqb (length g) 0) g (tokens_of (behind_token (behind_token s))))
  where
    and-false : (x : Bool) → (x && false) ≡ false
    and-false true = refl
    and-false false = refl

    and-true : (x : Bool) → (x && true) ≡ x
    and-true true = refl
    and-true false = refl

    go : (f : List ℕ) (t : Bool) (g : List ℕ) (ts : List (List ℕ))
        → (same f closes && t) ≡ is_end (cond (eqb (length f) 0) [] (f ∷ cond t [] (g ∷ ts)))
    go [] t g ts = refl
    go (b ∷ f) true g ts = rw (ne_eqb (length (b ∷ f)) 0 (λ z. omega arith)) (and-true (same (b ∷ f) closes))
    go (b ∷ f) false g ts = rw (ne_eqb (length (b ∷ f)) 0 (λ z. omega arith)) (and-false (same (b ∷ f) closes))

-- where the end is not behind the moves, and where it is
module _ {A : Type 0} (ts : List (List ℕ)) (v : A) where
  pub end-refused : is_end ts ≡ false → ◌≡◌ {A = Result A Refusal} (Err OutsideSubset) (answer (end_refusal ts) v)
  unfolding end_refusal unless answer
  end-refused e = rw e

  pub end-there : is_end ts ≡ true → ◌≡◌ {A = Result A Refusal} (Ok v) (answer (end_refusal ts) v)
  unfolding end_refusal unless answer
  end-there e = rw e

-- ---- the loop over moves: the codes that are kept, and the rest of the text, which has the other moves

pub record Reading (s codes rest : List ℕ) : Type 0 where
  pub room : 6 * length codes + length rest ≤ 4096
  pub codes_are : moves_from 0 (tokens_of s) ≡ codes ++ moves_from (length codes) (tokens_of rest)
  pub behind : behind_moves 0 (tokens_of s) ≡ behind_moves (length codes) (tokens_of rest)

pub reading-none : (s : List ℕ) → length s ≤ 4096 → Reading s [] s
reading-none s h = record { room = omega arith; codes_are = refl; behind = refl }

module _ (s codes rest : List ℕ) (inv : Reading s codes rest) where
  -- a turn keeps one code more
  module _ (on : move_in_front (length codes) (tokens_of rest) ≡ true) (next : List ℕ) (behind : next ≡ behind_three rest) where
    pub shorter : 6 + length next ≤ length rest
    shorter = let e = ap length behind in omega (arith, move-bytes (length codes) rest on)

    pub reading-more : (code : ℕ) → code ≡ point_of (token_at (tokens_of rest) 2) → (new : List ℕ) → new ≡ kept 682 codes (code ∷ [])
        → Reading s new next
    reading-more code is new k =
        let n = length codes in
        let put = k ∙ kept_lem 682 codes (code ∷ []) (omega (arith, inv.room, shorter)) in
        let long = ap length put ∙ length-append codes (code ∷ []) in
        let z : suc n ≡ length new = omega arith in
        let tokens = behind-three-of rest ∙ ap tokens_of (sym behind) in
        record {
          room = omega (arith, inv.room, shorter);
          codes_are =
              inv.codes_are ∙ ap (λ (l : List ℕ). codes ++ l) ((moves_more n (tokens_of rest) on).0
              ∙ ap₂ (λ (k : ℕ) (l : List ℕ). k ∷ l) (sym is) (ap₂ moves_from z tokens))
              ∙ sym (append_assoc codes (code ∷ []) (moves_from (length new) (tokens_of next)))
              ∙ ap (λ (l : List ℕ). l ++ moves_from (length new) (tokens_of next)) (sym put);
          behind = inv.behind ∙ (moves_more n (tokens_of rest) on).1 ∙ ap₂ behind_moves z tokens;
        }

  -- no move is left: all are kept
  module _ (off : move_in_front (length codes) (tokens_of rest) ≡ false) where
    pub all-kept : codes ≡ moves_from 0 (tokens_of s)
    all-kept =
        sym (inv.codes_are ∙ ap (λ (l : List ℕ). codes ++ l) (moves-done (length codes) (tokens_of rest) off).0 ∙ append-nil codes)

    pub left_behind : behind_moves 0 (tokens_of s) ≡ tokens_of rest
    left_behind = inv.behind ∙ (moves-done (length codes) (tokens_of rest) off).1

-- ---- the whole text

module _ (s rest : List ℕ) (behind : rest ≡ behind_three (behind_three s)) where
  tokens-left : tokens_of rest ≡ drop 6 (tokens_of s)
  tokens-left = ap tokens_of behind ∙ sym (behind-six-of s)

  pub moves-told : moves_from 0 (tokens_of rest) ≡ sgf_moves s
  unfolding sgf_moves moves_in
  moves-told = ap (moves_from 0) tokens-left

  -- the front and the end, each refused by itself
  pub refusal-told : sgf_refusal s
      ≡ first (text_refusal s) (first (unless (is_front (tokens_of s)) outside_subset)
      (first (end_refusal (behind_moves 0 (tokens_of rest))) (unless (leb (length (sgf_moves s)) 225) many_moves)))
  unfolding sgf_refusal game_refusal is_game end_refusal sgf_moves first unless
  refusal-told = rw tokens-left (go (is_front (tokens_of s)) (is_end (behind_moves 0 (drop 6 (tokens_of s)))))
    where
      go : (a b : Bool)
          → first (text_refusal s) (first (unless (a && b) outside_subset) (unless (leb (length (moves_in (tokens_of s))) 225) many_moves))
          ≡ first (text_refusal s) (first (unless a outside_subset) (first (unless b outside_subset)
          (unless (leb (length (moves_in (tokens_of s))) 225) many_moves)))
      go true b = refl
      go false b = refl

  -- .. and what is answered, test by test
  module _ (free : text_refusal s ≡ 0) where
    pub front-refused : is_front (tokens_of s) ≡ false
        → ◌≡◌ {A = Result (List ℕ) Refusal} (Err OutsideSubset) (answer (sgf_refusal s) (sgf_moves s))
    unfolding answer first unless
    front-refused e = rw (refusal-told, free, e)

    module _ (front : is_front (tokens_of s) ≡ true) where
      pub moves-refused : (end_refusal (behind_moves 0 (tokens_of rest)) ≡ 0 → ⊥) → (r : Refusal)
          → r ≡ refusal_named (end_refusal (behind_moves 0 (tokens_of rest)))
          → ◌≡◌ {A = Result (List ℕ) Refusal} (Err r) (answer (sgf_refusal s) (sgf_moves s))
      unfolding answer first unless
      moves-refused n r e = rw (refusal-told, free, front, ne_eqb (end_refusal (behind_moves 0 (tokens_of rest))) 0 n) (rw (ne_eqb (end_refusal (behind_moves 0 (tokens_of rest))) 0 n, e))

      module _ (ended : end_refusal (behind_moves 0 (tokens_of rest)) ≡ 0) where
        pub many-refused : leb (length (sgf_moves s)) 225 ≡ false
            → ◌≡◌ {A = Result (List ℕ) Refusal} (Err ManyMoves) (answer (sgf_refusal s) (sgf_moves s))
        unfolding answer first unless
        many-refused e = rw (refusal-told, free, front, ended, e)

        pub game-read : leb (length (sgf_moves s)) 225 ≡ true
            → ◌≡◌ {A = Result (List ℕ) Refusal} (Ok (sgf_moves s)) (answer (sgf_refusal s) (sgf_moves s))
        unfolding answer first unless
        game-read e = rw (refusal-told, free, front, ended, e)
