-- Bytes of a text (section 7): white space, a text without it at its ends or anywhere, the parts between a byte, and the refusals of any
-- text.
use Rattle.std.specs.Prelude.{Bool, false, not, ◌&&◌, ◌||◌, cond, List, [], ◌∷◌, ℕ, eqb, leb, ltb, length, get_or}
use Rattle.rules.specs.Refusals.{text_long, text_high, unless, first}
use Rattle.rules.specs.Tools.{all_below}
use Rattle.lent.specs.Slices.{first_at}

-- ---- the bytes that texts are made of, each named once, here

abbrev pub newline : ℕ
newline = 10

abbrev pub blank : ℕ
blank = 32

abbrev pub comma : ℕ
comma = 44

abbrev pub dash : ℕ
dash = 45

abbrev pub dot : ℕ
dot = 46

abbrev pub slash : ℕ
slash = 47

abbrev pub digit_zero : ℕ
digit_zero = 48

abbrev pub digit_nine : ℕ
digit_nine = 57

abbrev pub capital_a : ℕ
capital_a = 65

abbrev pub capital_o : ℕ
capital_o = 79

abbrev pub small_a : ℕ
small_a = 97

abbrev pub small_o : ℕ
small_o = 111

abbrev pub small_x : ℕ
small_x = 120

abbrev pub bar : ℕ
bar = 124

-- ---- white space

-- "Space is bytes 9 to 13 and 32."
unfoldable pub space : ℕ → Bool
space b = eqb b blank || (leb 9 b && leb b 13)

-- ---- trimmed

-- without the white space at the start
unfoldable pub trim_start : List ℕ → List ℕ
trim_start [] = []
trim_start (b ∷ s) = cond (space b) (trim_start s) (b ∷ s)

-- a byte before a text that has no white space at its end: white space alone is dropped
unfoldable pub keep_end : ℕ → List ℕ → List ℕ
keep_end b [] = cond (space b) [] (b ∷ [])
keep_end b (c ∷ s) = b ∷ c ∷ s

-- without the white space at the end
unfoldable pub trim_end : List ℕ → List ℕ
trim_end [] = []
trim_end (b ∷ s) = keep_end b (trim_end s)

unfoldable pub trim : List ℕ → List ℕ
trim s = trim_end (trim_start s)

-- how many bytes of white space stand at the start
abbrev pub leading : List ℕ → ℕ
leading s = first_at (λ b. not (space b)) s

-- without any white space
unfoldable pub dense : List ℕ → List ℕ
dense [] = []
dense (b ∷ s) = cond (space b) (dense s) (b ∷ dense s)

-- ---- parted

-- whether the byte d stands in the text
unfoldable pub has : ℕ → List ℕ → Bool
has d [] = false
has d (b ∷ s) = eqb b d || has d s

-- what stands before the first d (all, if there is none), and what stands behind it (nothing, if there is none)
unfoldable pub before : ℕ → List ℕ → List ℕ
before d [] = []
before d (b ∷ s) = cond (eqb b d) [] (b ∷ before d s)

unfoldable pub behind : ℕ → List ℕ → List ℕ
behind d [] = []
behind d (b ∷ s) = cond (eqb b d) s (behind d s)

-- a byte put in front of the first of some parts
unfoldable pub onto_first : ℕ → List (List ℕ) → List (List ℕ)
onto_first b [] = (b ∷ []) ∷ []
onto_first b (p ∷ ps) = (b ∷ p) ∷ ps

-- the parts between the bytes d: one more than there are bytes d, and some may be empty
unfoldable pub parts : ℕ → List ℕ → List (List ℕ)
parts d [] = [] ∷ []
parts d (b ∷ s) = cond (eqb b d) ([] ∷ parts d s) (onto_first b (parts d s))

-- ---- refused

-- 1 for "text over 4,096 bytes", then 2 for "a text byte of 128 or more"
unfoldable pub text_refusal : List ℕ → ℕ
text_refusal s = first (unless (leb (length s) 4096) text_long) (unless (all_below (length s) (λ i. ltb (get_or s i 0) 128)) text_high)
