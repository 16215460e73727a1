-- The laws of lists made number by number: `tab`, `gather`, and lists of (kind, code) pairs in code order. Assumes nothing.
use mathlib.Core.Path.{◌≡◌, refl, sym, ap, ap₂, ◌∙◌}
use mathlib.Core.Logic.{◌⊎◌, inl, inr, ⊎_elim}
use mathlib.Core.Bool.{Bool, true, false, cond}
use mathlib.Core.List.{List, [], ◌∷◌, ◌++◌, append_assoc, append-nil}
use Prim.Native.Nat.{ℕ, zero, suc, ◌+◌, ◌*◌, ◌≤◌, ◌<◌}
use native.Mathlib.Omega.{arith}
use native.Mathlib.Nat.{not-suc-le-zero, le_of_suc-le-suc, add-mul, one-mul, zero-mul, add-zero}
use native.Mathlib.Decide.{ℕ_discrete}
use lib.Dec.{eqb}
use lib.ListN.{length, get_or, length-append}
use lib.Seq.{ext_get_or}
use borrow.Author.Tests.{lt-ltb, le-ltb, eq-eqb, ne_eqb}
use Rattle.rules.specs.Numbers.{verdict_no}
use Rattle.rules.specs.Tools.{tab, gather, only}
use Rattle.rules.specs.Bit.{digit, count_of}
use Rattle.rules.specs.Forbidden.{entry}
use Rattle.rules.specs.Views.{insert}
use Rattle.rules.specs.declared.Verdict.{Verdict}
use Rattle.rules.specs.declared.Verdict.TheVariants.{None, DoubleThree, DoubleFour, Overline}

-- ---- tab

pub length-tab : (n : ℕ) (f : ℕ → ℕ) → length (tab n f) ≡ n
unfolding tab
length-tab zero f = refl
length-tab (suc n) f = ap suc (length-tab n (λ i. f (suc i)))

pub get_d-tab : (n : ℕ) (f : ℕ → ℕ) (i : ℕ) → i < n → get_or (tab n f) i 0 ≡ f i
unfolding tab
get_d-tab zero f i h = absurd (not-suc-le-zero h)
get_d-tab (suc n) f zero h = refl
get_d-tab (suc n) f (suc i) h = get_d-tab n (λ i. f (suc i)) i (le_of_suc-le-suc h)

pub tab-cong : (n : ℕ) (f g : ℕ → ℕ) → ((i : ℕ) → i < n → f i ≡ g i) → tab n f ≡ tab n g
tab-cong n f g h =
    ext_get_or 0 (tab n f) (tab n g) (length-tab n f ∙ sym (length-tab n g))
    (λ i b. let l = length-tab n f in get_d-tab n f i (omega arith) ∙ h i (omega arith) ∙ sym (get_d-tab n g i (omega arith)))

-- a list is a table where it has its length and its entries
pub is-tab : (l : List ℕ) (n : ℕ) (g : ℕ → ℕ) → length l ≡ n → ((i : ℕ) → i < n → get_or l i 0 ≡ g i) → l ≡ tab n g
is-tab l n g e h =
    ext_get_or 0 l (tab n g) (e ∙ sym (length-tab n g)) (λ i b. h i (omega arith) ∙ sym (get_d-tab n g i (omega arith)))

-- ---- gather

pub gather_cong : (n : ℕ) (f g : ℕ → List ℕ) → ((i : ℕ) → i < n → f i ≡ g i) → gather n f ≡ gather n g
unfolding gather
gather_cong zero f g h = refl
gather_cong (suc n) f g h = ap₂ ◌++◌ (gather_cong n f g (λ i l. h i (omega arith))) (h n (omega arith))

-- what gives nothing may be passed over
pub gather-skip : (f : ℕ → List ℕ) (n k : ℕ) → ((i : ℕ) → n ≤ i → i < n + k → f i ≡ []) → gather (n + k) f ≡ gather n f
unfolding gather
gather-skip f n zero h = ap (λ (x : ℕ). gather x f) (add-zero n)
gather-skip f n (suc k) h =
    ap (λ (x : ℕ). gather x f) (add-suc n k)
    ∙ ap₂ ◌++◌ (gather-skip f n k (λ i a b. h i a (omega arith))) (h (n + k) (omega arith) (omega arith))
    ∙ append-nil (gather n f)
  where
    add-suc : (n k : ℕ) → n + suc k ≡ suc (n + k)
    add-suc n k = omega arith

-- from the front
pub gather-front : (n : ℕ) (f : ℕ → List ℕ) → gather (suc n) f ≡ f 0 ++ gather n (λ i. f (suc i))
unfolding gather
gather-front zero f = front (f 0)
  where
    front : (l : List ℕ) → [] ++ l ≡ l ++ []
    front [] = refl
    front (x ∷ l) = ap (λ (m : List ℕ). x ∷ m) (front l)
gather-front (suc n) f = ap (λ (l : List ℕ). l ++ f (suc n)) (gather-front n f) ∙ append_assoc (f 0) (gather n (λ i. f (suc i))) (f (suc n))

-- how long a list is that has an item of k for each number that passes
pub gather-count : (k n : ℕ) (f : ℕ → Bool) (item : ℕ → List ℕ) → ((i : ℕ) → length (item i) ≡ k)
    → length (gather n (λ i. only (f i) (item i))) ≡ count_of n f * k
unfolding gather count_of
gather-count k zero f item h = omega arith
gather-count k (suc n) f item h =
    ap length (gather-front n (λ i. only (f i) (item i)))
    ∙ length-append (only (f 0) (item 0)) (gather n (λ i. only (f (suc i)) (item (suc i))))
    ∙ ap₂ (λ (a b : ℕ). a + b) (one (f 0)) (gather-count k n (λ i. f (suc i)) (λ i. item (suc i)) (λ i. h (suc i)))
    ∙ sym (add-mul (digit (f 0)) (count_of n (λ i. f (suc i))) k)
  where
    one : (b : Bool) → length (only b (item 0)) ≡ digit b * k
    one true = h 0 ∙ sym (one-mul k)
    one false = sym (zero-mul k)

-- ---- pairs in code order: the kinds of the codes from a on, n codes; kind 0 is not listed

unfoldable pub pairs : (ℕ → ℕ) → ℕ → ℕ → List ℕ
pairs kind a zero = []
pairs kind a (suc n) = cond (eqb (kind a) 0) (pairs kind (suc a) n) (kind a ∷ a ∷ pairs kind (suc a) n)

pub pairs-skip : (kind : ℕ → ℕ) (a n : ℕ) → kind a ≡ 0 → pairs kind a (suc n) ≡ pairs kind (suc a) n
unfolding pairs
pairs-skip kind a n e = rw (eq-eqb (kind a) 0 e)

pub pairs-take : (kind : ℕ → ℕ) (a n : ℕ) → (kind a ≡ 0 → ⊥) → pairs kind a (suc n) ≡ kind a ∷ a ∷ pairs kind (suc a) n
unfolding pairs
pairs-take kind a n e = rw (ne_eqb (kind a) 0 e)

pub pairs-same : (kind kind' : ℕ → ℕ) (a n : ℕ) → ((r : ℕ) → a ≤ r → r < a + n → kind r ≡ kind' r) → pairs kind a n ≡ pairs kind' a n
unfolding pairs
pairs-same kind kind' a zero h = refl
pairs-same kind kind' a (suc n) h =
    ap₂ (λ (x : ℕ) (l : List ℕ). cond (eqb x 0) l (x ∷ a ∷ l)) (h a (omega arith) (omega arith))
    (pairs-same kind kind' (suc a) n (λ r x y. h r (omega arith) (omega arith)))

pub pairs-none : (kind : ℕ → ℕ) (a n : ℕ) → ((r : ℕ) → a ≤ r → r < a + n → kind r ≡ 0) → pairs kind a n ≡ []
unfolding pairs
pairs-none kind a zero h = refl
pairs-none kind a (suc n) h = pairs-skip kind a n (h a (omega arith) (omega arith)) ∙ pairs-none kind (suc a) n
    (λ r x y. h r (omega arith) (omega arith))

-- a gathered list of verdicts is one of these
entry-pair : (v : Verdict) (a : ℕ) (l : List ℕ) → entry v a ++ l ≡ cond (eqb (verdict_no v) 0) l (verdict_no v ∷ a ∷ l)
entry-pair None a l = refl
entry-pair DoubleThree a l = refl
entry-pair DoubleFour a l = refl
entry-pair Overline a l = refl

pub gather_pairs : (f : ℕ → Verdict) (a n : ℕ) → gather n (λ i. entry (f (a + i)) (a + i)) ≡ pairs (λ p. verdict_no (f p)) a n
unfolding pairs gather
gather_pairs f a zero = refl
gather_pairs f a (suc n) =
    gather-front n (λ i. entry (f (a + i)) (a + i))
    ∙ ap₂ ◌++◌ (ap (λ (x : ℕ). entry (f x) x) (let q : a + 0 ≡ a = omega arith in q))
    (gather_cong n (λ i. entry (f (a + suc i)) (a + suc i)) (λ i. entry (f (suc a + i)) (suc a + i))
    (λ i h. ap (λ (x : ℕ). entry (f x) x) (let q : a + suc i ≡ suc a + i = omega arith in q))
    ∙ gather_pairs f (suc a) n)
    ∙ entry-pair (f a) a (pairs (λ p. verdict_no (f p)) (suc a) n)

-- ---- one more point put in

insert-less : (k p k' p' : ℕ) (l : List ℕ) → p < p' → insert k p (k' ∷ p' ∷ l) ≡ k ∷ p ∷ k' ∷ p' ∷ l
unfolding insert
insert-less k p k' p' l h = rw (lt-ltb p p' h)

insert-more : (k p k' p' : ℕ) (l : List ℕ) → p' ≤ p → insert k p (k' ∷ p' ∷ l) ≡ k' ∷ p' ∷ insert k p l
unfolding insert
insert-more k p k' p' l h = rw (le-ltb p p' h)

-- before all that is listed
insert-first : (k q : ℕ) (kind : ℕ → ℕ) (b n : ℕ) → q < b → insert k q (pairs kind b n) ≡ k ∷ q ∷ pairs kind b n
unfolding pairs insert
insert-first k q kind b zero h = refl
insert-first k q kind b (suc n) h = at (ℕ_discrete (kind b) 0) (insert-first k q kind (suc b) n (omega arith))
  where
    at : Dec (kind b ≡ 0) → insert k q (pairs kind (suc b) n) ≡ k ∷ q ∷ pairs kind (suc b) n
        → insert k q (pairs kind b (suc n)) ≡ k ∷ q ∷ pairs kind b (suc n)
    at (yes z) ih = ap (insert k q) (pairs-skip kind b n z) ∙ ih ∙ ap (λ (l : List ℕ). k ∷ q ∷ l) (sym (pairs-skip kind b n z))
    at (no z) ih =
        ap (insert k q) (pairs-take kind b n z) ∙ insert-less k q (kind b) b (pairs kind (suc b) n) h
        ∙ ap (λ (l : List ℕ). k ∷ q ∷ l) (sym (pairs-take kind b n z))

-- a kind for one more point
module _ (k q : ℕ) (kind kind' : ℕ → ℕ) (nz : k ≡ 0 → ⊥) (was : kind q ≡ 0) (is : kind' q ≡ k)
    (else : (r : ℕ) → r < 225 → (r ≡ q → ⊥) → kind' r ≡ kind r) where
  pub insert-pairs : (a n : ℕ) → a + n ≡ 225 → a ≤ q → q < a + n → insert k q (pairs kind a n) ≡ pairs kind' a n
  insert-pairs a zero e h l = absurd (omega arith)
  insert-pairs a (suc n) e h l =
      at (ℕ_discrete a q) (ℕ_discrete (kind a) 0) (λ g. insert-pairs (suc a) n (omega arith) g (omega arith))
    where
      at : Dec (a ≡ q) → Dec (kind a ≡ 0) → (suc a ≤ q → insert k q (pairs kind (suc a) n) ≡ pairs kind' (suc a) n)
          → insert k q (pairs kind a (suc n)) ≡ pairs kind' a (suc n)
      at (yes p) z ih =
          let z1 : kind a ≡ 0 = ap kind p ∙ was in
          let z2 : kind' a ≡ k = ap kind' p ∙ is in
          ap (insert k q) (pairs-skip kind a n z1)
          ∙ insert-first k q kind (suc a) n (omega arith)
          ∙ ap (λ (l : List ℕ). k ∷ q ∷ l) (pairs-same kind kind' (suc a) n (λ r x y. sym (else r (omega arith) (λ w. omega arith))))
          ∙ ap₂ (λ (x y : ℕ). x ∷ y ∷ pairs kind' (suc a) n) (sym z2) (sym p)
          ∙ sym (pairs-take kind' a n (λ w. nz (sym z2 ∙ w)))
      at (no p) (yes z) ih =
          let s : kind' a ≡ kind a = else a (omega arith) p in
          ap (insert k q) (pairs-skip kind a n z) ∙ ih (omega arith) ∙ sym (pairs-skip kind' a n (s ∙ z))
      at (no p) (no z) ih =
          let s : kind' a ≡ kind a = else a (omega arith) p in
          ap (insert k q) (pairs-take kind a n z)
          ∙ insert-more k q (kind a) a (pairs kind (suc a) n) h
          ∙ ap₂ (λ (x : ℕ) (l : List ℕ). x ∷ a ∷ l) (sym s) (ih (omega arith))
          ∙ sym (pairs-take kind' a n (λ w. z (sym s ∙ w)))

-- ---- what such a list says: each code once, ascending, none of kind 0; and the kind that it names for a code

abbrev pub InOrder : ℕ → List ℕ → Type 0
InOrder a [] = Unit {0}
InOrder a (k ∷ []) = ⊥
InOrder a (k ∷ p ∷ l) = (k ≡ 0 → ⊥) × (a ≤ p) × InOrder (suc p) l

-- the kind listed for p, 0 where p is not listed
abbrev pub listed : List ℕ → ℕ → ℕ
listed [] p = 0
listed (k ∷ []) p = 0
listed (k ∷ q ∷ l) p = cond (eqb q p) k (listed l p)

pub pairs-order : (kind : ℕ → ℕ) (b a n : ℕ) → b ≤ a → InOrder b (pairs kind a n)
unfolding pairs
pairs-order kind b a zero h = tt
pairs-order kind b a (suc n) h = at (ℕ_discrete (kind a) 0) (pairs-order kind b (suc a) n (omega arith))
    (pairs-order kind (suc a) (suc a) n (omega arith))
  where
    at : Dec (kind a ≡ 0) → InOrder b (pairs kind (suc a) n) → InOrder (suc a) (pairs kind (suc a) n) → InOrder b (pairs kind a (suc n))
    at (yes z) i j = rw (eq-eqb (kind a) 0 z) i
    at (no z) i j = rw (ne_eqb (kind a) 0 z) (z, h, j)

-- a code before a, or from a + n on, is not listed
pub pairs-outside : (kind : ℕ → ℕ) (a n p : ℕ) → (p < a) ⊎ (a + n ≤ p) → listed (pairs kind a n) p ≡ 0
unfolding pairs
pairs-outside kind a zero p h = refl
pairs-outside kind a (suc n) p h =
    at (ℕ_discrete (kind a) 0) (pairs-outside kind (suc a) n p (⊎_elim (λ l. inl (omega arith)) (λ l. inr (omega arith)) h))
  where
    apart : a ≡ p → ⊥
    apart e = ⊎_elim (λ l. omega arith) (λ l. omega arith) h

    at : Dec (kind a ≡ 0) → listed (pairs kind (suc a) n) p ≡ 0 → listed (pairs kind a (suc n)) p ≡ 0
    at (yes z) ih = ap (λ (l : List ℕ). listed l p) (pairs-skip kind a n z) ∙ ih
    at (no z) ih = ap (λ (l : List ℕ). listed l p) (pairs-take kind a n z) ∙ rw (ne_eqb a p apart) ih

pub pairs-listed : (kind : ℕ → ℕ) (a n p : ℕ) → a ≤ p → p < a + n → listed (pairs kind a n) p ≡ kind p
unfolding pairs
pairs-listed kind a zero p h l = absurd (omega arith)
pairs-listed kind a (suc n) p h l = at (ℕ_discrete a p) (ℕ_discrete (kind a) 0) (λ g. pairs-listed kind (suc a) n p g (omega arith))
  where
    at : Dec (a ≡ p) → Dec (kind a ≡ 0) → (suc a ≤ p → listed (pairs kind (suc a) n) p ≡ kind p) → listed (pairs kind a (suc n)) p ≡ kind p
    at (yes e) (yes z) ih =
        ap (λ (l : List ℕ). listed l p) (pairs-skip kind a n z) ∙ pairs-outside kind (suc a) n p (inl (omega arith)) ∙ sym z ∙ ap kind e
    at (yes e) (no z) ih = ap (λ (l : List ℕ). listed l p) (pairs-take kind a n z) ∙ rw (eq-eqb a p e) (ap kind e)
    at (no e) (yes z) ih = ap (λ (l : List ℕ). listed l p) (pairs-skip kind a n z) ∙ ih (omega arith)
    at (no e) (no z) ih = ap (λ (l : List ℕ). listed l p) (pairs-take kind a n z) ∙ rw (ne_eqb a p e) (ih (omega arith))
