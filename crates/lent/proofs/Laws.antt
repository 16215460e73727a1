-- The laws of gathered lists, and of the buffers that hold them: a loop that collects keeps `gather i f`, and a turn of it is
-- `gather-step`, that is `gather_kept` or `gather_passed`, or `gather_put`; `list-end` says what a list that a buffer holds is handed out
-- as. Assumes nothing.
use mathlib.Core.Path.{◌≡◌, refl, ap, ap₂, sym, ◌∙◌}
use mathlib.Core.Bool.{Bool, true, false, cond}
use mathlib.Core.List.{List, [], ◌∷◌, ◌++◌, append-nil}
use Prim.Native.Nat.{ℕ, zero, suc, ◌+◌, ◌-◌, ◌*◌, ◌≤◌, ◌<◌, min}
use native.Mathlib.Nat.{add-zero}
use native.Mathlib.Numerals.{add-one, unary_clauses}
use native.Mathlib.Omega.{arith}
use lib.ListN.{length, get_or, take, set, length-append, length-replicate, drop_of_length-le}
use lib.Seq.{take_at, take-suc, take-length, length-take-le, sets}
use Rattle.std.proofs.lemmas.List.Edits.{sets-eq}
use borrow.Author.Tests.{le-leb, ne_eqb}
use Rattle.std.specs.Prelude.{Result}
use Rattle.rules.specs.Refusals.{first}
use Rattle.rules.specs.Answers.{checked}
use Rattle.rules.specs.declared.refusal.Refusal.{Refusal}
use Rattle.rules.specs.Tools.{gather, only}
use Rattle.lent.specs.Lists.{list_refusal, list_out, kept, zeros, padded, Held}

-- ---- gathered lists

pub gather_none : (f : ℕ → List ℕ) → gather 0 f ≡ []
unfolding gather
gather_none f = refl

pub gather-more : (n : ℕ) (f : ℕ → List ℕ) → gather n f ++ f n ≡ gather (n + 1) f
unfolding gather
gather-more n f = rw add-one

-- at most k at each index
pub gather-length : (k n : ℕ) (f : ℕ → List ℕ) → ((i : ℕ) → i < n → length (f i) ≤ k) → length (gather n f) ≤ n * k
unfolding gather
gather-length k zero f h = omega arith
gather-length k (suc n) f h =
    rw (length-append (gather n f) (f n)) (omega (arith, gather-length k n f (λ i l. h i (omega arith)), h n (omega arith)))

pub only-length : (b : Bool) (l : List ℕ) → length (only b l) ≤ length l
only-length true l = omega arith
only-length false l = omega arith

-- at most k bytes for each number that passes
pub short : (k : ℕ) (on : ℕ → Bool) (item : ℕ → List ℕ) → ((i : ℕ) → length (item i) ≤ k) → (n : ℕ)
    → length (gather n (λ i. only (on i) (item i))) ≤ n * k
short k on item h n =
    gather-length k n (λ i. only (on i) (item i))
    (λ i l. let a = only-length (on i) (item i) in let b = h i in omega arith)

-- nothing at any number
pub gather-nothing : (n : ℕ) (f : ℕ → List ℕ) → ((i : ℕ) → f i ≡ []) → gather n f ≡ []
unfolding gather
gather-nothing zero f h = refl
gather-nothing (suc n) f h = rw (gather-nothing n f h, h n)

-- ---- stores, one after the other

sets-append : (old : List ℕ) (at : ℕ) (l m : List ℕ) → sets (sets old at l) (at + length l) m ≡ sets old at (l ++ m)
sets-append old at [] m = ap (λ (k : ℕ). sets old k m) (add-zero at)
sets-append old at (a ∷ l) m =
    let e : at + suc (length l) ≡ suc at + length l = omega arith in
    ap (λ (k : ℕ). sets (sets (set old at a) (suc at) l) k m) e ∙ sets-append (set old at a) (suc at) l m

-- a turn of a loop that copies
pub sets_more : (old from : List ℕ) (at i : ℕ) → i < length from
    → set (sets old at (take i from)) (at + i) (get_or from i 0) ≡ sets old at (take (i + 1) from)
sets_more old from at i h =
    let l : List ℕ = take i from in
    let e : i ≡ length l = sym (length-take-le i from (omega arith)) in
    ap (λ (k : ℕ). set (sets old at l) (at + k) (get_or from i 0)) e
    ∙ sets-append old at l (get_or from i 0 ∷ [])
    ∙ ap (sets old at) (sym (ap (λ (k : ℕ). take k from) (add-one i) ∙ take-suc from i 0 h))

-- .. at its end, where the buffer is as long as what is stored
pub sets_whole : (old from : List ℕ) → length old ≡ length from → sets old 0 (take (length from) from) ≡ from
sets_whole old from h =
    ap (sets old 0) (take-length from)
    ∙ sets-eq from old 0 (omega (arith, h))
    ∙ ap (λ (x : List ℕ). from ++ x) (drop_of_length-le old (omega (arith, h)))
    ∙ append-nil from

-- ---- a list that is kept item by item

-- an item for which there is room
pub kept_lem : (n : ℕ) (l item : List ℕ) → length l + length item ≤ n → kept n l item ≡ l ++ item
unfolding kept
kept_lem n l item h = rw (le-leb (length l + length item) n h)

module _ (size : ℕ) (f : ℕ → List ℕ) (i : ℕ) {l new : List ℕ} (h : l ≡ gather i f) where
  -- a turn of a loop over i that keeps what f gives there
  pub gather_kept : (item : List ℕ) → new ≡ kept size l item → length (gather i f) + length item ≤ size → f i ≡ item
      → new ≡ gather (i + 1) f
  gather_kept item k room e =
      k ∙ rw (h, kept_lem size (gather i f) item room) (ap (λ (x : List ℕ). gather i f ++ x) (sym e) ∙ gather-more i f)

  -- .. that puts there all that f gives
  pub gather_put : new ≡ l ++ f i → new ≡ gather (i + 1) f
  gather_put k = k ∙ rw h (gather-more i f)

  -- .. at which f gives nothing
  pub gather_passed : new ≡ l → f i ≡ [] → new ≡ gather (i + 1) f
  gather_passed k e = k ∙ h ∙ sym (append-nil (gather i f)) ∙ ap (λ (x : List ℕ). gather i f ++ x) (sym e) ∙ gather-more i f

-- a turn of a loop over i that keeps at most one item: f gives that item, if on
pub gather-step : (size : ℕ) (f : ℕ → List ℕ) (i : ℕ) (l : List ℕ) (on : Bool) (item new : List ℕ) → l ≡ gather i f
    → length (gather i f) + length item ≤ size → new ≡ cond on (kept size l item) l → f i ≡ only on item → new ≡ gather (i + 1) f
gather-step size f i l true item new h room k e = gather_kept size f i h item k room e
gather-step size f i l false item new h room k e = gather_passed size f i h k e

-- ---- a fresh buffer

pub length-zeros : (n : ℕ) → length (zeros n) ≡ n
unfolding zeros
length-zeros n = length-replicate {A = ℕ} n 0

pub zeros-at : (n i : ℕ) → get_or (zeros n) i 0 ≡ 0
unfolding zeros
zeros-at zero i = refl
zeros-at (suc n) zero = refl
zeros-at (suc n) (suc i) = zeros-at n i

-- ---- an answer

-- as much of a list as there is
pub take-least : (n : ℕ) (l : List ℕ) → take (min n (length l)) l ≡ take n l
take-least zero l = simp unary_clauses
take-least (suc n) [] = simp unary_clauses
take-least (suc n) (a ∷ l) = simp unary_clauses (ap (λ (x : List ℕ). a ∷ x) (take-least n l))

-- what was refused is refused before 13, and the lent buffer keeps its bytes
pub kept_out : (told : ℕ) (out a : List ℕ) → (told ≡ 0 → ⊥) → (list_refusal told out a ≡ told) × (out ≡ list_out told out a)
unfolding list_out list_refusal first
kept_out told out a n = let z = ne_eqb told 0 n in (rw (z), rw (z, z))

-- ---- a buffer that holds a list

-- a list is read back
pub take-padded : (size : ℕ) (l : List ℕ) → take (length l) (padded size l) ≡ l
unfolding padded
take-padded size l = take_at l (zeros (size - length l)) (length l) refl

pub held-take : (size : ℕ) {a from : List ℕ} {len : ℕ} → Held size a from len → take len from ≡ a
held-take size {a} h = ap₂ {C = List ℕ} take h.count h.buffer ∙ take-padded size a

-- the end of a function that lists: `write_out` was given a buffer that holds a
pub list-end : (size refused : ℕ) (out a from : List ℕ) (len : ℕ) {r : Result Unit Refusal} {out' : List ℕ} → Held size a from len
    → (r ≡ checked (list_refusal refused out (take len from))) × (out' ≡ list_out refused out (take len from))
    → (r ≡ checked (list_refusal refused out a)) × (out' ≡ list_out refused out a)
list-end size refused out a from len h k =
    let held = held-take size h in
    (k.0 ∙ ap (λ (x : List ℕ). checked (list_refusal refused out x)) held, k.1 ∙ ap (list_out refused out) held)
