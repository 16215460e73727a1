-- Games to SGF and back (document 02, No. 10). Stated of what the contracts of `to_sgf` and `from_sgf` cite: `sgf_text` is what the first
-- writes, `sgf_moves` what the second writes, each where its refusal is 0. Assumes nothing.
use mathlib.Core.Path.{◌≡◌, refl, ap, sym, subst, ◌∙◌}
use mathlib.Core.Bool.{Bool, true, false, ◌&&◌, cond}
use mathlib.Core.List.{List, [], ◌∷◌, ◌++◌}
use Prim.Native.Nat.{ℕ, zero, suc, ◌+◌, ◌-◌, ◌/◌, ◌%◌, ◌≤◌, ◌<◌}
use native.Mathlib.Omega.{arith}
use lib.Dec.{eqb, leb, ltb, le→leb, lt→ltb}
use lib.ListN.{length, get_or, drop}
use lib.Seq.{drop-drop}
use borrow.Author.Tests.{eq-eqb, ne_eqb, le-leb, lt-ltb, ltb-true, leb-true}
use Rattle.rules.specs.Refusals.{text_long, text_high, many_moves, outside_subset, unless, first}
use Rattle.rules.specs.Tools.{all_below}
use Rattle.rules.specs.Cases.{same}
use Rattle.rules.proofs.Logic.{T_true, no_true, all-intro}
use Rattle.rules.proofs.Refusals.{first-none, none_first, passed, pass}
use Rattle.lent.specs.Slices.{first_at}
use Rattle.cells.specs.Cells.{moves_refusal}
use Rattle.cells.proofs.Given.{moves-in}
use Rattle.text.specs.Bytes.{small_a, small_o, space, has, text_refusal}
use Rattle.sgf.specs.Tokens.{open_bracket, close_bracket, capital, value_length, name_length, token_length, tokens_of, token_at, joined, spread}
use Rattle.sgf.specs.Games.{opens, closes, node, game_name, game_value, size_name, size_value, mover, point_value, move_tokens}
use Rattle.sgf.specs.Games.{game_tokens, sgf_text, moves_text, move_text, letter_no, is_point, point_of, are_three, is_front, is_move}
use Rattle.sgf.specs.Games.{moves_from, behind_moves, is_end, is_game, moves_in, game_refusal, sgf_refusal, sgf_moves}
use Rattle.sgf.proofs.Tokens.{same-eq}
use Rattle.sgf.proofs.Games.{point-length, point-brackets, point-letters, move-node, move-name, move-value, both, three}
use Rattle.sgf.proofs.Texts.{front_text, moves-none, moves-cons, text-parts, text-length}
use Rattle.sgf.proofs.Spaces.{WhiteSpace, Token, Tokens, spaces-around, joined-tokens, no_gap, no_gap_lem, no-space}
use Rattle.sgf.proofs.Spaces.{one, more}

-- ---- letters and points

letter-up : (x : ℕ) → x < 15 → letter_no (small_a + x) ≡ x
unfolding letter_no
letter-up x h = rw (le-leb small_a (small_a + x) (omega arith), le-leb (small_a + x) small_o (omega arith)) (omega arith)

letter-down : (b : ℕ) → letter_no b < 15 → small_a + letter_no b ≡ b
unfolding letter_no
letter-down b h = go (leb small_a b) (leb b small_o) refl h
  where
    go : (x y : Bool) → leb small_a b ≡ x → cond (x && y) (b - small_a) 15 < 15 → small_a + cond (x && y) (b - small_a) 15 ≡ b
    go true true e h = let l = leb-true small_a b e in omega arith
    go true false e h = absurd (omega arith)
    go false y e h = absurd (omega arith)

-- a point's value is one, and names the point
module _ (p : ℕ) (h : p < 225) where
  column : letter_no (get_or (point_value p) 1 0) ≡ p / 15
  unfolding point_value
  column = letter-up (p / 15) (omega arith)

  row : letter_no (get_or (point_value p) 2 0) ≡ 14 - p % 15
  unfolding point_value
  row = letter-up (14 - p % 15) (omega arith)

  pub value-point : is_point (point_value p) ≡ true
  unfolding is_point point_value
  value-point =
      rw (
        lt-ltb (letter_no (small_a + p / 15)) 15 (omega (arith, letter-up (p / 15) (omega arith))),
        lt-ltb (letter_no (small_a + (14 - p % 15))) 15 (omega (arith, letter-up (14 - p % 15) (omega arith))),
      )

  pub value-names : point_of (point_value p) ≡ p
  unfolding point_of
  value-names = let x = column in let y = row in omega arith

-- .. and a value that names a point is that point's
four : (t : List ℕ) → length t ≡ 4 → t ≡ get_or t 0 0 ∷ get_or t 1 0 ∷ get_or t 2 0 ∷ get_or t 3 0 ∷ []
four [] e = absurd (omega arith)
four (a ∷ []) e = absurd (omega arith)
four (a ∷ b ∷ []) e = absurd (omega arith)
four (a ∷ b ∷ c ∷ []) e = absurd (omega arith)
four (a ∷ b ∷ c ∷ d ∷ []) e = refl
four (a ∷ b ∷ c ∷ d ∷ f ∷ t) e = absurd (omega arith)

alike : (a b c d a' b' c' d' : ℕ) → a ≡ a' → b ≡ b' → c ≡ c' → d ≡ d' → a ∷ b ∷ c ∷ d ∷ [] ≡ a' ∷ b' ∷ c' ∷ d' ∷ []
alike a b c d a' b' c' d' p q r s = rw (p, q, r, s)

module _ (t : List ℕ) (e : is_point t ≡ true) where
  pub point-small : point_of t < 225
  unfolding point_of
  point-small = let h = point-letters t e in omega (arith, h.0, h.1)

  pub point-value : point_value (point_of t) ≡ t
  unfolding point_value point_of
  point-value =
      let (first-bracket, last-bracket) = point-brackets t e in
      let h = point-letters t e in
      let x = letter-down (get_or t 1 0) h.0 in
      let y = letter-down (get_or t 2 0) h.1 in
      alike _ _ _ _ (get_or t 0 0) (get_or t 1 0) (get_or t 2 0) (get_or t 3 0) (sym first-bracket)
      (omega (arith, h.0, h.1)) (omega (arith, h.0, h.1)) (sym last-bracket)
      ∙ sym (four t (point-length t e))

-- ---- the tokens of a game are tokens, and no two names stand together

mark : (b : ℕ) → space b ≡ false → eqb b open_bracket ≡ false → capital b ≡ false → Token (b ∷ [])
unfolding token_length
mark b s o c = record { some = omega arith; starts = s; ends = λ rest h. rw (o, c) }

opens-token : Token opens
unfolding space capital
opens-token = mark 40 refl refl refl

closes-token : Token closes
unfolding space capital
closes-token = mark 41 refl refl refl

node-token : Token node
unfolding space capital
node-token = mark 59 refl refl refl

game-value : Token game_value
unfolding space token_length value_length has first_at
game-value = record { some = omega arith; starts = refl; ends = λ rest h. refl }

size-value : Token size_value
unfolding space token_length value_length has first_at
size-value = record { some = omega arith; starts = refl; ends = λ rest h. refl }

move-value-token : (p : ℕ) → Token (point_value p)
unfolding space token_length value_length has first_at point_value
move-value-token p =
    record {
      some = omega arith;
      starts = refl;
      ends = λ rest h.
          rw (ne_eqb (small_a + p / 15) close_bracket (λ z. omega arith), ne_eqb (small_a + (14 - p % 15)) close_bracket (λ z. omega arith));
    }

-- a name ends where no capital letter follows
name-stops : (rest : List ℕ) → capital (get_or rest 0 0) ≡ false → name_length rest ≡ 0
unfolding name_length first_at
name-stops [] e = refl
name-stops (b ∷ rest) e = rw e

one-letter : (b : ℕ) → space b ≡ false → eqb b open_bracket ≡ false → capital b ≡ true → Token (b ∷ [])
unfolding token_length name_length first_at
one-letter b s o c =
    record { some = omega arith; starts = s; ends = λ rest h. rw (o, c) (ap suc (name-stops rest (rw c at h))) }

two-letters : (a b : ℕ) → space a ≡ false → eqb a open_bracket ≡ false → capital a ≡ true → capital b ≡ true → Token (a ∷ b ∷ [])
unfolding token_length name_length first_at
two-letters a b s o c d =
    record { some = omega arith; starts = s; ends = λ rest h. rw (o, c, d) (ap (λ (n : ℕ). suc (suc n)) (name-stops rest (rw c at h))) }

game-name : Token game_name
unfolding space capital
game-name = two-letters 71 77 refl refl refl refl

size-name : Token size_name
unfolding space capital
size-name = two-letters 83 90 refl refl refl refl

mover-name : (n : ℕ) → Token (mover n ∷ [])
unfolding space capital mover
mover-name n = go (eqb (n % 2) 0)
  where
    go : (x : Bool) → Token (cond x 66 87 ∷ [])
    go true = one-letter 66 refl refl refl
    go false = one-letter 87 refl refl refl

and-false : (x : Bool) → (x && false) ≡ false
and-false true = refl
and-false false = refl

no-capital : capital 59 ≡ false
unfolding capital
no-capital = refl

bracket-small : (p : ℕ) → capital (get_or (point_value p) 0 0) ≡ false
unfolding capital point_value
bracket-small p = refl

moves-stand : (t : List ℕ) → Token t → capital (get_or t 0 0) ≡ false → (n : ℕ) (moves : List ℕ)
    → Tokens (t ∷ (move_tokens n moves ++ (closes ∷ [])))
unfolding move_tokens
moves-stand t token c n [] = more t closes [] token (rw c) (one closes closes-token)
moves-stand t token c n (p ∷ moves) =
    let others : List (List ℕ) = move_tokens (suc n) moves ++ (closes ∷ []) in
    more t node ((mover n ∷ []) ∷ point_value p ∷ others) token (rw c)
    (more node (mover n ∷ []) (point_value p ∷ others) node-token (rw no-capital)
    (more (mover n ∷ []) (point_value p) others (mover-name n) (rw (bracket-small p) (and-false (capital (mover n))))
    (moves-stand (point_value p) (move-value-token p) (bracket-small p) (suc n) moves)))

pub game-stands : (moves : List ℕ) → Tokens (game_tokens moves)
unfolding game_tokens capital
game-stands moves =
    more _ _ _ opens-token refl (more _ _ _ node-token refl (more _ _ _ game-name refl (more _ _ _ game-value refl (more _ _ _ size-name refl
    (moves-stand size_value size-value refl 0 moves)))))

-- Spaces put around the tokens of a game change nothing: its tokens are the same, whatever white space stands in each gap.
pub game-spaced : (gap : ℕ → List ℕ) → ((k : ℕ) → WhiteSpace (gap k)) → (k : ℕ) (moves : List ℕ)
    → tokens_of (spread gap k (game_tokens moves)) ≡ game_tokens moves
game-spaced gap white k moves = spaces-around gap white (game-stands moves) k

pub game-tokens : (moves : List ℕ) → tokens_of (sgf_text moves) ≡ game_tokens moves
unfolding sgf_text
game-tokens moves = joined-tokens (game-stands moves)

-- ---- a game's tokens are read as its moves

-- moves that are points
abbrev pub Points : List ℕ → Type 0
Points moves = (i : ℕ) → i < length moves → get_or moves i 0 < 225

is-move : (n p : ℕ) → p < 225 → is_move n node (mover n ∷ []) (point_value p) ≡ true
unfolding is_move
is-move n p h = rw (eq-eqb (mover n) (mover n) refl, value-point p h)

moves-back : (n : ℕ) (moves : List ℕ) → Points moves
    → (moves_from n (move_tokens n moves ++ (closes ∷ [])) ≡ moves) × (behind_moves n (move_tokens n moves ++ (closes ∷ [])) ≡ closes ∷ [])
unfolding moves_from behind_moves move_tokens
moves-back n [] h = (refl, refl)
moves-back n (p ∷ moves) h =
    let small : p < 225 = h 0 (omega arith) in
    let (back, behind) = moves-back (suc n) moves (λ i l. h (suc i) (omega arith)) in
    (rw (is-move n p small, value-names p small, back), rw (is-move n p small) behind)

closes-end : is_end (closes ∷ []) ≡ true
unfolding is_end
closes-end = refl

pub game-read : (moves : List ℕ) → Points moves → (is_game (game_tokens moves) ≡ true) × (moves_in (game_tokens moves) ≡ moves)
unfolding is_game moves_in game_tokens is_front are_three
game-read moves h =
    let (back, behind) = moves-back 0 moves h in
    (ap is_end behind ∙ closes-end, back)

-- .. and refused only where they are more than 225
pub game-refused : (moves : List ℕ) → Points moves → game_refusal (game_tokens moves) ≡ unless (leb (length moves) 225) many_moves
unfolding game_refusal first unless
game-refused moves h = let (is, back) = game-read moves h in rw (is, back)

-- ---- THE THEOREMS

-- With spaces around its tokens, in at most 4,096 bytes, a game that can be written is read as the same moves.
pub spaced-read : (gap : ℕ → List ℕ) → ((k : ℕ) → WhiteSpace (gap k)) → (k : ℕ) (moves : List ℕ) → moves_refusal moves ≡ 0
    → text_refusal (spread gap k (game_tokens moves)) ≡ 0
    → (sgf_refusal (spread gap k (game_tokens moves)) ≡ 0) × (sgf_moves (spread gap k (game_tokens moves)) ≡ moves)
unfolding sgf_refusal sgf_moves
spaced-read gap white k moves told free =
    let (few, points) = moves-in moves told in
    let s = spread gap k (game_tokens moves) in
    let e = game-spaced gap white k moves in (
      none_first (text_refusal s) (game_refusal (tokens_of s)) free
          (ap game_refusal e ∙ game-refused moves points ∙ pass (leb (length moves) 225) many_moves (le→leb (length moves) 225 few)),
      ap moves_in e ∙ (game-read moves points).1,
    )

-- ---- the text that is written has no byte of 128 or more

low-append : (a b : List ℕ) → ((i : ℕ) → get_or a i 0 < 128) → ((i : ℕ) → get_or b i 0 < 128) → (i : ℕ) → get_or (a ++ b) i 0 < 128
low-append [] b f g i = g i
low-append (x ∷ a) b f g zero = f 0
low-append (x ∷ a) b f g (suc i) = low-append a b (λ j. f (suc j)) g i

all_low : List ℕ → Bool
all_low [] = true
all_low (b ∷ s) = ltb b 128 && all_low s

low_told : (s : List ℕ) → all_low s ≡ true → (i : ℕ) → get_or s i 0 < 128
unfolding all_low
low_told [] e i = omega arith
low_told (b ∷ s) e zero = ltb-true b 128 (both (ltb b 128) (all_low s) e).0
low_told (b ∷ s) e (suc i) = low_told s (both (ltb b 128) (all_low s) e).1 i

low-move : (n p : ℕ) → p < 225 → (i : ℕ) → get_or (move_text n p) i 0 < 128
unfolding all_low move_text point_value mover
low-move n p h i =
    low_told (59 ∷ mover n ∷ open_bracket ∷ (small_a + p / 15) ∷ (small_a + (14 - p % 15)) ∷ close_bracket ∷ [])
    (rw (lt-ltb (small_a + p / 15) 128 (omega arith), lt-ltb (small_a + (14 - p % 15)) 128 (omega arith)) (go (eqb (n % 2) 0))) i
  where
    go : (x : Bool) → (ltb (cond x 66 87) 128 && true) ≡ true
    go true = refl
    go false = refl

low-moves : (n : ℕ) (moves : List ℕ) → Points moves → (i : ℕ) → get_or (moves_text n moves) i 0 < 128
low-moves n [] h i = rw (moves-none n) (omega arith)
low-moves n (p ∷ moves) h i =
    rw (moves-cons n p moves)
    (low-append (move_text n p) (moves_text (suc n) moves) (low-move n p (h 0 (omega arith)))
    (low-moves (suc n) moves (λ j l. h (suc j) (omega arith))) i)

low-text : (moves : List ℕ) → Points moves → (i : ℕ) → get_or (sgf_text moves) i 0 < 128
unfolding all_low
low-text moves h i =
    rw (text-parts moves)
    (low-append front_text (moves_text 0 moves ++ closes) (low_told front_text refl)
    (low-append (moves_text 0 moves) closes (low-moves 0 moves h) (low_told closes refl)) i)

pub text-free : (moves : List ℕ) → moves_refusal moves ≡ 0 → text_refusal (sgf_text moves) ≡ 0
unfolding text_refusal
text-free moves told =
    let (few, points) = moves-in moves told in
    let s = sgf_text moves in
    let long = text-length moves in
    none_first (unless (leb (length s) 4096) text_long) (unless (all_below (length s) (λ i. ltb (get_or s i 0) 128)) text_high)
    (pass (leb (length s) 4096) text_long (le→leb (length s) 4096 (omega arith)))
    (pass (all_below (length s) (λ i. ltb (get_or s i 0) 128)) text_high
    (all-intro (length s) (λ i. ltb (get_or s i 0) 128) (λ i l. lt→ltb (get_or s i 0) 128 (low-text moves points i))))

-- "A written game reads back to the same moves."
pub written_read : (moves : List ℕ) → moves_refusal moves ≡ 0 → (sgf_refusal (sgf_text moves) ≡ 0) × (sgf_moves (sgf_text moves) ≡ moves)
unfolding sgf_text
written_read moves told =
    let e : spread no_gap 0 (game_tokens moves) ≡ joined (game_tokens moves) = no_gap_lem 0 (game_tokens moves) in
    subst (λ (s : List ℕ). (sgf_refusal s ≡ 0) × (sgf_moves s ≡ moves)) e
    (spaced-read no_gap no-space 0 moves told (ap text_refusal e ∙ text-free moves told))

-- ---- what is read is what is written, but for spaces

move-list : (a b c a' b' c' : List ℕ) (ts us : List (List ℕ)) → a ≡ a' → b ≡ b' → c ≡ c' → ts ≡ us → a ∷ b ∷ c ∷ ts ≡ a' ∷ b' ∷ c' ∷ us
move-list a b c a' b' c' ts us p q r s = rw (p, q, r, s)

ends_so : (n : ℕ) (ts : List (List ℕ)) → is_end (behind_moves n ts) ≡ true → ts ≡ move_tokens n (moves_from n ts) ++ (closes ∷ [])
unfolding behind_moves moves_from move_tokens is_end
ends_so n [] e = absurd (no_true e)
ends_so n (a ∷ []) e = ap (λ (t : List ℕ). t ∷ []) (same-eq a closes e)
ends_so n (a ∷ b ∷ []) e = absurd (no_true e)
ends_so n (a ∷ b ∷ c ∷ ts) e = go (is_move n a b c) refl e (ends_so (suc n) ts)
  where
    go : (x : Bool) → is_move n a b c ≡ x → is_end (cond x (behind_moves (suc n) ts) (a ∷ b ∷ c ∷ ts)) ≡ true
        → (is_end (behind_moves (suc n) ts) ≡ true → ts ≡ move_tokens (suc n) (moves_from (suc n) ts) ++ (closes ∷ []))
        → a ∷ b ∷ c ∷ ts ≡ move_tokens n (cond x (point_of c ∷ moves_from (suc n) ts) []) ++ (closes ∷ [])
    go true q e r =
        move-list a b c node (mover n ∷ []) (point_value (point_of c)) ts (move_tokens (suc n) (moves_from (suc n) ts) ++ (closes ∷ []))
        (move-node n a b c q) (move-name n a b c q) (sym (point-value c (move-value n a b c q))) (r e)
    go false q e r = absurd (no_true e)

-- a token at a place
cut : (k : ℕ) (ts : List (List ℕ)) (t : List ℕ) → 1 ≤ length t → token_at ts k ≡ t → drop k ts ≡ t ∷ drop (suc k) ts
cut zero [] t h e = absurd (let n = ap length e in omega arith)
cut zero (a ∷ ts) t h e = ap (λ (u : List ℕ). u ∷ ts) e
cut (suc k) [] t h e = absurd (let n = ap length e in omega arith)
cut (suc k) (a ∷ ts) t h e = cut k ts t h e

module _ (ts : List (List ℕ)) (e : is_front ts ≡ true) where
  halves : (are_three opens node game_name ts ≡ true) × (are_three game_value size_name size_value (drop 3 ts) ≡ true)
  unfolding is_front
  halves = both (are_three opens node game_name ts) (are_three game_value size_name size_value (drop 3 ts)) e

  first-half : ts ≡ opens ∷ node ∷ game_name ∷ drop 3 ts
  unfolding are_three
  first-half =
      let (a, b, c) = three (same (token_at ts 0) opens) (same (token_at ts 1) node) (same (token_at ts 2) game_name) halves.0 in
      cut 0 ts opens (omega arith) (same-eq (token_at ts 0) opens a)
      ∙ ap (λ (l : List (List ℕ)). opens ∷ l) (cut 1 ts node (omega arith) (same-eq (token_at ts 1) node b)
      ∙ ap (λ (l : List (List ℕ)). node ∷ l) (cut 2 ts game_name (omega arith) (same-eq (token_at ts 2) game_name c)))

  second-half : drop 3 ts ≡ game_value ∷ size_name ∷ size_value ∷ drop 6 ts
  unfolding are_three
  second-half =
      let us = drop 3 ts in
      let (a, b, c) = three (same (token_at us 0) game_value) (same (token_at us 1) size_name) (same (token_at us 2) size_value) halves.1 in
      cut 0 us game_value (omega arith) (same-eq (token_at us 0) game_value a)
      ∙ ap (λ (l : List (List ℕ)). game_value ∷ l) (cut 1 us size_name (omega arith) (same-eq (token_at us 1) size_name b)
      ∙ ap (λ (l : List (List ℕ)). size_name ∷ l) (cut 2 us size_value (omega arith) (same-eq (token_at us 2) size_value c)
      ∙ ap (λ (l : List (List ℕ)). size_value ∷ l) (drop-drop 3 3 ts)))

-- Tokens that are a game's are those of its moves: so no two lists of tokens say the same game.
pub game-only : (ts : List (List ℕ)) → is_game ts ≡ true → ts ≡ game_tokens (moves_in ts)
unfolding is_game moves_in game_tokens
game-only ts e =
    let (front, end) = both (is_front ts) (is_end (behind_moves 0 (drop 6 ts))) e in
    first-half ts front
    ∙ ap (λ (l : List (List ℕ)). opens ∷ node ∷ game_name ∷ l) (second-half ts front
    ∙ ap (λ (l : List (List ℕ)). game_value ∷ size_name ∷ size_value ∷ l) (ends_so 0 (drop 6 ts) end))

-- A text that is read has the tokens of the text that its moves are written as.
pub read-written : (s : List ℕ) → sgf_refusal s ≡ 0 → tokens_of s ≡ tokens_of (sgf_text (sgf_moves s))
unfolding sgf_refusal game_refusal sgf_moves
read-written s e =
    let ts = tokens_of s in
    let told = (first-none (text_refusal s) (game_refusal ts) e).1 in
    let is = passed (is_game ts) 19 (first-none (unless (is_game ts) outside_subset) (unless (leb (length (moves_in ts)) 225) many_moves) told).0 in
    game-only ts (T_true is) ∙ sym (game-tokens (moves_in ts))
