-- Games as SGF text (document 02, No. 10): "Clubs exchange games as SGF, where game number 4 stands for gomoku and renju." The quoted
-- sentences are document 02's. A game is a list of tokens: written one behind the other, read from the tokens of any text.
use Rattle.std.specs.Prelude.{Bool, false, ◌&&◌, cond, List, [], ◌∷◌, ◌++◌, ℕ, suc, ◌+◌, ◌-◌, ◌%◌, eqb, leb, ltb, length, get_or, drop, Option, Some, None}
use Rattle.rules.specs.Refusals.{many_moves, outside_subset, unless, first}
use Rattle.rules.specs.Point.{x_of, y_of, code_of}
use Rattle.rules.specs.Cases.{same}
use Rattle.text.specs.Bytes.{small_a, small_o, text_refusal}
use Rattle.sgf.specs.Tokens.{open_bracket, close_bracket, tokens_of, token_at, joined}

-- ---- the tokens of a game

abbrev pub opens : List ℕ
opens = 40 ∷ []

abbrev pub closes : List ℕ
closes = 41 ∷ []

abbrev pub node : List ℕ
node = 59 ∷ []

-- `GM` and `[4]`, `SZ` and `[15]`
abbrev pub game_name : List ℕ
game_name = 71 ∷ 77 ∷ []

abbrev pub game_value : List ℕ
game_value = open_bracket ∷ 52 ∷ close_bracket ∷ []

abbrev pub size_name : List ℕ
size_name = 83 ∷ 90 ∷ []

abbrev pub size_value : List ℕ
size_value = open_bracket ∷ 49 ∷ 53 ∷ close_bracket ∷ []

-- "B and W alternate": who has move n, from 0; 66 is B, 87 is W
unfoldable pub mover : ℕ → ℕ
mover n = cond (eqb (n % 2) 0) 66 87

-- "with two small letters a to o for the column and the row counted from the top"
unfoldable pub point_value : ℕ → List ℕ
point_value p = open_bracket ∷ (small_a + x_of p) ∷ (small_a + (14 - y_of p)) ∷ close_bracket ∷ []

-- what stands before the moves
abbrev pub front_tokens : List (List ℕ)
front_tokens = opens ∷ node ∷ game_name ∷ game_value ∷ size_name ∷ size_value ∷ []

-- the moves from move n on: each `;`, `B` or `W` in turn, and its point
unfoldable pub move_tokens : ℕ → List ℕ → List (List ℕ)
move_tokens n [] = []
move_tokens n (p ∷ moves) = node ∷ (mover n ∷ []) ∷ point_value p ∷ move_tokens (suc n) moves

unfoldable pub game_tokens : List ℕ → List (List ℕ)
game_tokens moves = front_tokens ++ (move_tokens 0 moves ++ (closes ∷ []))

-- ---- written: "Write one game without spaces, H8 alone as `(;GM[4]SZ[15];B[hh])`" (proofs/Texts.antt, one-game)

unfoldable pub sgf_text : List ℕ → List ℕ
sgf_text moves = joined (game_tokens moves)

-- .. the moves of it, and one of them: six bytes
abbrev pub moves_text : ℕ → List ℕ → List ℕ
moves_text n moves = joined (move_tokens n moves)

unfoldable pub move_text : ℕ → ℕ → List ℕ
move_text n p = 59 ∷ mover n ∷ point_value p

-- ---- read, of any tokens: "refuse variations and other properties"

-- the number of a small letter, a 0 to o 14, and 15 for any other byte
unfoldable pub letter_no : ℕ → ℕ
letter_no b = cond (leb small_a b && leb b small_o) (b - small_a) 15

-- a value of two such letters, and the point that they name
unfoldable pub is_point : List ℕ → Bool
is_point t =
    eqb (length t) 4 && (eqb (get_or t 0 0) open_bracket && (eqb (get_or t 3 0) close_bracket
    && (ltb (letter_no (get_or t 1 0)) 15 && ltb (letter_no (get_or t 2 0)) 15)))

unfoldable pub point_of : List ℕ → ℕ
point_of t = code_of (letter_no (get_or t 1 0)) (14 - letter_no (get_or t 2 0))

-- the point of a value, where it is one
unfoldable pub point_read : List ℕ → Option ℕ
point_read t = cond (is_point t) (Some (point_of t)) None

-- three tokens that are these
unfoldable pub are_three : List ℕ → List ℕ → List ℕ → List (List ℕ) → Bool
are_three a b c ts = same (token_at ts 0) a && (same (token_at ts 1) b && same (token_at ts 2) c)

unfoldable pub is_front : List (List ℕ) → Bool
is_front ts = are_three opens node game_name ts && are_three game_value size_name size_value (drop 3 ts)

-- three tokens that are move n
unfoldable pub is_move : ℕ → List ℕ → List ℕ → List ℕ → Bool
is_move n a b c = same a node && (same b (mover n ∷ []) && is_point c)

abbrev pub move_in_front : ℕ → List (List ℕ) → Bool
move_in_front n ts = is_move n (token_at ts 0) (token_at ts 1) (token_at ts 2)

-- the point of move n, where it stands in front
unfoldable pub move_read : ℕ → List (List ℕ) → Option ℕ
move_read n ts = cond (move_in_front n ts) (Some (point_of (token_at ts 2))) None

-- the moves in front, from move n on, and the tokens behind them
unfoldable pub moves_from : ℕ → List (List ℕ) → List ℕ
moves_from n [] = []
moves_from n (a ∷ []) = []
moves_from n (a ∷ b ∷ []) = []
moves_from n (a ∷ b ∷ c ∷ ts) = cond (is_move n a b c) (point_of c ∷ moves_from (suc n) ts) []

unfoldable pub behind_moves : ℕ → List (List ℕ) → List (List ℕ)
behind_moves n [] = []
behind_moves n (a ∷ []) = a ∷ []
behind_moves n (a ∷ b ∷ []) = a ∷ b ∷ []
behind_moves n (a ∷ b ∷ c ∷ ts) = cond (is_move n a b c) (behind_moves (suc n) ts) (a ∷ b ∷ c ∷ ts)

-- `)`, and nothing behind it
unfoldable pub is_end : List (List ℕ) → Bool
is_end [] = false
is_end (a ∷ []) = same a closes
is_end (a ∷ b ∷ ts) = false

-- the front, then moves in turn, then the end
unfoldable pub is_game : List (List ℕ) → Bool
is_game ts = is_front ts && is_end (behind_moves 0 (drop 6 ts))

unfoldable pub moves_in : List (List ℕ) → List ℕ
moves_in ts = moves_from 0 (drop 6 ts)

-- ---- refused: "1 and 2 first, 20 for anything outside the subset, 14 and 13 after it"

-- where the end is not behind the moves
unfoldable pub end_refusal : List (List ℕ) → ℕ
end_refusal ts = unless (is_end ts) outside_subset

unfoldable pub game_refusal : List (List ℕ) → ℕ
game_refusal ts = first (unless (is_game ts) outside_subset) (unless (leb (length (moves_in ts)) 225) many_moves)

unfoldable pub sgf_refusal : List ℕ → ℕ
sgf_refusal s = first (text_refusal s) (game_refusal (tokens_of s))

-- the moves that a text says
unfoldable pub sgf_moves : List ℕ → List ℕ
sgf_moves s = moves_in (tokens_of s)
