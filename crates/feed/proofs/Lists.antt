-- Lists of moves by value: how long they are, one move more, the last one fewer. Assumes nothing.
use mathlib.Core.Path.{◌≡◌, refl, sym, ap, ◌∙◌}
use mathlib.Core.List.{List, [], ◌∷◌, ◌++◌}
use Prim.Native.Nat.{ℕ, suc, ◌+◌, ◌-◌, ◌<◌, min}
use native.Mathlib.Omega.{arith}
use native.Mathlib.Numerals.{add-one}
use lib.ListN.{length, take, set, length-take, length-set, length-append}
use lib.Seq.{take-suc-set, take-take}
use borrow.Author.Tests.{lt-ltb}
use Rattle.feed.specs.declared.moves.Moves.{Moves}
use Rattle.feed.specs.Feed.{list_of, size_of, grown, shrunk, no_moves}

pub size-least : (l : Moves) → size_of l ≡ min l.count (length l.codes)
unfolding size_of list_of
size-least l = length-take l.count l.codes

-- the first codes are the list, by the count or by its size
pub list-size : (l : Moves) → list_of l ≡ take (size_of l) l.codes
unfolding size_of list_of
list-size l = go l.count l.codes
  where
    go : (n : ℕ) (s : List ℕ) → take n s ≡ take (length (take n s)) s
    go ℕ.zero s = refl
    go (suc n) [] = refl
    go (suc n) (x ∷ s) = ap (λ (t : List ℕ). x ∷ t) (go n s)

pub list-none : list_of no_moves ≡ []
unfolding list_of no_moves
list-none = refl

-- one move more
module _ (l : Moves) (code : ℕ) (whole : length l.codes ≡ 225) (room : size_of l < 225) where
  pub grown-is : grown l code ≡ record { codes = set l.codes (size_of l) code; count = size_of l + 1 }
  unfolding grown
  grown-is = rw (lt-ltb (size_of l) 225 room)

  pub list-grown : list_of (grown l code) ≡ list_of l ++ (code ∷ [])
  unfolding list_of
  list-grown =
      ap list_of grown-is
      ∙ ap (λ (n : ℕ). take n (set l.codes (size_of l) code)) (add-one (size_of l))
      ∙ take-suc-set l.codes (size_of l) code (omega arith)
      ∙ ap (λ (s : List ℕ). s ++ (code ∷ [])) (sym (list-size l))

  pub codes-grown : length (grown l code).codes ≡ 225
  codes-grown = ap (λ (m : Moves). length m.codes) grown-is ∙ length-set l.codes (size_of l) code ∙ whole

  pub size-grown : size_of (grown l code) ≡ size_of l + 1
  unfolding size_of
  size-grown = ap length list-grown ∙ length-append (list_of l) (code ∷ [])

-- the last move taken back
pub list-shrunk : (l : Moves) → list_of (shrunk l) ≡ take (size_of l - 1) (list_of l)
unfolding shrunk list_of
list-shrunk l = sym (ap (λ (s : List ℕ). take (size_of l - 1) s) (list-size l) ∙ take-take (size_of l - 1) (size_of l) l.codes (omega arith))
