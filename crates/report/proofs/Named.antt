-- What is refused of a text has one of the 22 numbers, so that its name tells it. Assumes nothing.
use mathlib.Core.Path.{◌≡◌}
use mathlib.Core.Bool.{Bool, true, false, ◌||◌, cond}
use mathlib.Core.List.{List, [], ◌∷◌}
use mathlib.Core.Logic.{◌⊎◌, inl, inr}
use Prim.Native.Nat.{ℕ, ◌≤◌}
use native.Mathlib.Omega.{arith}
use lib.Dec.{T, eqb, eqb→eq}
use borrow.Author.Rules.{rules}
use Rattle.rules.specs.Refusals.{unless, first}
use Rattle.rules.specs.Answers.{refusal_no, refusal_named}
use Rattle.rules.specs.Tools.{all_below}
use Rattle.rules.proofs.Logic.{all-elim, or_cases}
use Rattle.text.specs.Bytes.{slash, has, trim, text_refusal}
use Rattle.text.specs.Points.{place_refusal, item_refusal, items_refusal, points_refusal}
use Rattle.text.specs.Reading.{slash_refusal, stones_text_refusal, form_refusal, read_refusal}

-- the name of a number, and back
back : ℕ → Bool
back n = eqb (refusal_no (refusal_named n)) n

pub named_back : (n : ℕ) → (n ≡ 0 → ⊥) → n ≤ 22 → refusal_no (refusal_named n) ≡ n
unfolding back all_below
named_back n some h = go (or_cases (eqb n 0) (back n) (all-elim 23 (λ k. eqb k 0 || back k) tt n (omega arith)))
  where
    go : T (eqb n 0) ⊎ T (back n) → refusal_no (refusal_named n) ≡ n
    go (inl t) = absurd (some (eqb→eq n 0 t))
    go (inr t) = eqb→eq (refusal_no (refusal_named n)) n t

unless_named : (b : Bool) (n : ℕ) → n ≤ 22 → unless b n ≤ 22
unfolding unless
unless_named true n h = omega arith
unless_named false n h = h

first_named : (a b : ℕ) → a ≤ 22 → b ≤ 22 → first a b ≤ 22
unfolding first
first_named a b p q = go (eqb a 0)
  where
    go : (t : Bool) → cond t b a ≤ 22
    go true = q
    go false = p

text_named : (s : List ℕ) → text_refusal s ≤ 22
unfolding text_refusal
text_named s = search (rules, first_named, unless_named)

item_named : (s : List ℕ) → item_refusal s ≤ 22
unfolding item_refusal place_refusal
item_named s = search (rules, first_named, unless_named)

items_named : (ss : List (List ℕ)) → items_refusal ss ≤ 22
unfolding items_refusal
items_named [] = omega arith
items_named (s ∷ ss) = first_named (item_refusal s) (items_refusal ss) (item_named s) (items_named ss)

points_named : (s : List ℕ) → points_refusal s ≤ 22
unfolding points_refusal
points_named s = items_named _

stones_text_named : (s : List ℕ) → stones_text_refusal s ≤ 22
unfolding stones_text_refusal slash_refusal
stones_text_named s = search (rules, first_named, unless_named, points_named)

pub read_named : (s : List ℕ) → read_refusal s ≤ 22
unfolding read_refusal form_refusal
read_named s = first_named (text_refusal s) (form_refusal s) (text_named s) (go (has slash s))
  where
    go : (t : Bool) → cond t (stones_text_refusal (trim s)) (points_refusal (trim s)) ≤ 22
    go true = stones_text_named (trim s)
    go false = points_named (trim s)
