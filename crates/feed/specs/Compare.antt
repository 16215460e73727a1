-- Two held lists "compared as plain bytes". The quoted sentences are document 02's, No. 8.
use Rattle.std.specs.Prelude.{Bool, true, false, ◌&&◌, ◌||◌, cond, List, [], ◌∷◌, ℕ, ◌+◌, eqb, ltb, length, drop}
use Rattle.std.specs.Borrow.{Bor}
use Rattle.rules.specs.Refusals.{apart_lists, unless}

-- the first list begins the second
unfoldable pub begins : List ℕ → List ℕ → Bool
begins [] t = true
begins (x ∷ s) [] = false
begins (x ∷ s) (y ∷ t) = eqb x y && begins s t

-- "19 for lists where neither begins the other"
unfoldable pub missing_refusal : List ℕ → List ℕ → ℕ
missing_refusal a b = unless (begins a b || begins b a) apart_lists

-- which is longer: 0 neither, 1 the first, 2 the second
unfoldable pub longer_of : List ℕ → List ℕ → ℕ
longer_of a b = cond (eqb (length a) (length b)) 0 (cond (ltb (length b) (length a)) 1 2)

-- "if one begins the other, hand back the caller's own part of the longer list that the shorter lacks; if they are equal, the empty end of
-- the first": the bytes of the part. Where neither begins the other, too, it is the empty end of the first.
unfoldable pub missing_part : List ℕ → List ℕ → List ℕ
missing_part a b = cond (begins b a) (drop (length b) a) (cond (begins a b) (drop (length a) b) [])

-- "the caller's own part": where it lies. What is behind the first n bytes of a lent list lies in the same block, n bytes on
unfoldable pub behind : Bor (List ℕ) → ℕ → ℕ × ℕ
behind r n = (r.ref_ptr.0, n + r.ref_ptr.1)

unfoldable pub missing_place : Bor (List ℕ) → Bor (List ℕ) → ℕ × ℕ
missing_place a b =
    cond (begins b.now a.now) (behind a (length b.now))
    (cond (begins a.now b.now) (behind b (length a.now)) (behind a (length a.now)))
