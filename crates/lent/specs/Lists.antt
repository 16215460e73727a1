-- Lists given back: kept item by item in a local buffer, and laid over a lent one.
use Rattle.std.specs.Prelude.{◌≡◌, Bool, cond, List, ◌++◌, ℕ, ◌+◌, ◌-◌, ◌/◌, leb, eqb, length, drop, replicate, Result}
use Rattle.rules.specs.Refusals.{no_room, unless, first}
use Rattle.rules.specs.Answers.{answer}
use Rattle.rules.specs.declared.refusal.Refusal.{Refusal}

-- whether an answer fits a lent buffer
unfoldable pub fits : List ℕ → List ℕ → Bool
fits old new = leb (length new) (length old)

-- a lent buffer with an answer in place of its leading bytes
unfoldable pub laid : List ℕ → List ℕ → List ℕ
laid old new = new ++ drop (length new) old

-- the refusal of a function that lists: that of its arguments, if any, else 13 where the list does not fit
unfoldable pub list_refusal : ℕ → List ℕ → List ℕ → ℕ
list_refusal refused out a = first refused (unless (fits out a) no_room)

-- the lent buffer after it: the list in front, or as it was where something is refused
unfoldable pub list_out : ℕ → List ℕ → List ℕ → List ℕ
list_out refused out a = cond (eqb (list_refusal refused out a) 0) (laid out a) out

-- how many items of `size` bytes the list has, where nothing is refused
unfoldable pub counted : ℕ → ℕ → List ℕ → List ℕ → Result ℕ Refusal
counted size refused out a = answer (list_refusal refused out a) (length a / size)

-- a list with an item at its end, where there is room for it among n bytes
unfoldable pub kept : ℕ → List ℕ → List ℕ → List ℕ
kept n l item = cond (leb (length l + length item) n) (l ++ item) l

-- a fresh buffer of n bytes
unfoldable pub zeros : ℕ → List ℕ
zeros n = replicate n 0

-- a local buffer of n bytes that holds a list, with zeros behind it
unfoldable pub padded : ℕ → List ℕ → List ℕ
padded n l = l ++ zeros (n - length l)

-- buf, of `size` bytes, holds l, and n of its bytes are l
pub record Held (size : ℕ) (l buf : List ℕ) (n : ℕ) : Type 0 where
  pub buffer : buf ≡ padded size l
  pub count : n ≡ length l
