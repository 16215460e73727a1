-- The tokens of an SGF text (document 02, No. 10), of any bytes. "Read the same subset, with spaces around tokens (`[hh]` is one)"
use Rattle.std.specs.Prelude.{Bool, not, ◌&&◌, cond, List, [], ◌∷◌, ◌++◌, ℕ, zero, suc, eqb, leb, length, get_or, take, drop}
use Rattle.lent.specs.Slices.{first_at, find_at}
use Rattle.text.specs.Bytes.{capital_a, trim_start, has}

-- ---- one token

-- the brackets of a value
abbrev pub open_bracket : ℕ
open_bracket = 91

abbrev pub close_bracket : ℕ
close_bracket = 93

abbrev pub capital_z : ℕ
capital_z = 90

-- a byte of a property's name
unfoldable pub capital : ℕ → Bool
capital b = leb capital_a b && leb b capital_z

-- A value with its brackets is one token: up to the first closing bracket. An opening one that is never closed stands alone.
unfoldable pub value_length : List ℕ → ℕ
value_length s = cond (has close_bracket s) (suc (find_at close_bracket s)) 1

-- So is a property's name: all the capital letters that stand together.
unfoldable pub name_length : List ℕ → ℕ
name_length s = first_at (λ b. not (capital b)) s

-- how many bytes the token has that a text begins with; any other byte is a token by itself
unfoldable pub token_length : List ℕ → ℕ
token_length s =
    cond (eqb (get_or s 0 0) open_bracket) (value_length s)
    (cond (capital (get_or s 0 0)) (name_length s) 1)

-- ---- all tokens

-- the first token of a text, behind the white space in front, and what is behind it; nothing where only white space is left
unfoldable pub first_token : List ℕ → List ℕ
first_token s = take (token_length (trim_start s)) (trim_start s)

unfoldable pub behind_token : List ℕ → List ℕ
behind_token s = drop (token_length (trim_start s)) (trim_start s)

-- what is behind three tokens
abbrev pub behind_three : List ℕ → List ℕ
behind_three s = behind_token (behind_token (behind_token s))

-- the first n tokens, or all
unfoldable pub tokens_up_to : ℕ → List ℕ → List (List ℕ)
tokens_up_to zero s = []
tokens_up_to (suc n) s = cond (eqb (length (first_token s)) 0) [] (first_token s ∷ tokens_up_to n (behind_token s))

-- the tokens of a text: they are no more than its bytes (proofs/Tokens.antt, tokens-step)
unfoldable pub tokens_of : List ℕ → List (List ℕ)
tokens_of s = tokens_up_to (length s) s

-- token k, from 0; past the end no byte
abbrev pub token_at : List (List ℕ) → ℕ → List ℕ
token_at ts k = get_or ts k []

-- ---- tokens put together

-- one behind the other, without spaces
unfoldable pub joined : List (List ℕ) → List ℕ
joined [] = []
joined (t ∷ ts) = t ++ joined ts

-- with a gap before each token, from gap k on, and a gap behind the last
unfoldable pub spread : (ℕ → List ℕ) → ℕ → List (List ℕ) → List ℕ
spread gap k [] = gap k
spread gap k (t ∷ ts) = gap k ++ (t ++ spread gap (suc k) ts)
