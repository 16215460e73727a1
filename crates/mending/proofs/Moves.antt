-- The moves that are kept, item by item, are those that were read before the first repeat; the reason and the number of the item that slips.
-- Assumes nothing.
use mathlib.Core.Path.{◌≡◌, refl, sym, ap, ap₂, ◌∙◌}
use mathlib.Core.Bool.{Bool, true, false, ◌&&◌, cond}
use mathlib.Core.Logic.{◌⊎◌, inl, inr}
use mathlib.Core.List.{List, [], ◌∷◌, ◌++◌}
use Prim.Native.Nat.{ℕ, suc, ◌+◌, ◌≤◌, ◌<◌}
use native.Mathlib.Nat.{zero-add}
use native.Mathlib.Omega.{arith}
use lib.Dec.{eqb, leb, ltb}
use native.Mathlib.Numerals.{add-one}
use lib.ListN.{length, get_or, take, drop, length-append, length-drop}
use lib.Seq.{take_at, take_all, take-suc, drop-cons, length-take-le}
use borrow.Author.Tests.{eqb-true, lt-ltb, le-ltb}
use Rattle.std.specs.Prelude.{Option, Some, None}
use Rattle.std.specs.Option.{option_map}
use Rattle.rules.specs.Refusals.{no_column, no_row, unless, first}
use Rattle.rules.proofs.Logic.{decide}
use Rattle.cells.specs.Cells.{codes_refusal}
use Rattle.text.specs.Bytes.{comma, trim, has, parts}
use Rattle.text.specs.Points.{column_in, row_in, place_refusal, item_refusal, item_code, items_refusal, leading_codes, points_refusal}
use Rattle.text.specs.Points.{leading_in, slip_in, slip_at, list_found}
use Rattle.text.specs.declared.points.Leading.{Leading}
use Rattle.text.specs.declared.points.Slip.{Slip}
use Rattle.text.proofs.Said.{item-small}
use Rattle.display.proofs.PointBack.{Points}
use Rattle.mending.specs.Mending.{repeated, slip_of, kept_from, reason_from, number_of_slip, kept_of, reason_of, once_from, once_of}
use Rattle.mending.specs.Mending.{reason_named, unread, slip_behind, slip_item, slip_reason, two_lines, mended_text, mended_with, mended_found}
use Rattle.mending.specs.declared.kept.Mended.{Mended}
use Rattle.mending.specs.declared.kept.Reason.{Reason}
use Rattle.mending.specs.declared.kept.Reason.TheVariants.{Repeated}
use Rattle.mending.proofs.Once.{Once, once-kept, once-points, once-front, once-short, points-pass}

-- ---- item by item and code by code

kept-once-from : (kept : List ℕ) (items : List (List ℕ)) → kept_from kept items ≡ once_from kept (leading_codes items)
unfolding kept_from once_from leading_codes slip_of first unless
kept-once-from kept [] = refl
kept-once-from kept (item ∷ items) =
    go (decide (eqb (item_refusal item) 0)) (decide (has (item_code item) kept)) (kept-once-from (kept ++ (item_code item ∷ [])) items)
  where
    go : (eqb (item_refusal item) 0 ≡ true) ⊎ (eqb (item_refusal item) 0 ≡ false)
        → (has (item_code item) kept ≡ true) ⊎ (has (item_code item) kept ≡ false)
        → kept_from (kept ++ (item_code item ∷ [])) items ≡ once_from (kept ++ (item_code item ∷ [])) (leading_codes items)
        → kept_from kept (item ∷ items) ≡ once_from kept (leading_codes (item ∷ items))
    go (inl t) (inl y) ih = rw (t, y)
    go (inl t) (inr y) ih = rw (t, y) ih
    go (inr t) y ih = rw (t, t)

-- why the item slips: a repeat before all that was read is kept, else what the reader refuses
why_of : List ℕ → List (List ℕ) → ℕ
why_of kept items =
    cond (ltb (length (once_from kept (leading_codes items))) (length kept + length (leading_codes items))) 1 (items_refusal items)

why-from : (kept : List ℕ) (items : List (List ℕ)) → reason_from kept items ≡ why_of kept items
unfolding reason_from once_from leading_codes slip_of items_refusal first unless why_of
why-from kept [] = rw (le-ltb (length kept) (length kept + 0) (omega arith))
why-from kept (item ∷ items) =
    go (decide (eqb (item_refusal item) 0)) (decide (has (item_code item) kept)) (why-from (kept ++ (item_code item ∷ [])) items)
  where
    codes : List ℕ
    codes = leading_codes items

    more : length (kept ++ (item_code item ∷ [])) + length codes ≡ length kept + suc (length codes)
    more = omega (arith, length-append kept (item_code item ∷ []))

    go : (eqb (item_refusal item) 0 ≡ true) ⊎ (eqb (item_refusal item) 0 ≡ false)
        → (has (item_code item) kept ≡ true) ⊎ (has (item_code item) kept ≡ false)
        → reason_from (kept ++ (item_code item ∷ [])) items ≡ why_of (kept ++ (item_code item ∷ [])) items
        → reason_from kept (item ∷ items) ≡ why_of kept (item ∷ items)
    go (inl t) (inl y) ih = rw (t, y) (rw (lt-ltb (length kept) (length kept + suc (length codes)) (omega arith)))
    go (inl t) (inr y) ih = rw (t, y) (ih ∙ rw more)
    go (inr t) y ih = rw (t, t, le-ltb (length kept) (length kept + 0) (omega arith))

module _ (s : List ℕ) where
  pub kept-once : kept_of s ≡ once_of (leading_in s)
  unfolding kept_of leading_in once_of
  kept-once = kept-once-from [] (parts comma (trim s))

  pub why-slip : reason_of s ≡ cond (ltb (length (once_of (leading_in s))) (length (leading_in s))) 1 (points_refusal s)
  unfolding reason_of leading_in points_refusal once_of why_of
  why-slip =
      let items = parts comma (trim s) in
      why-from [] items
      ∙ ap (λ (n : ℕ). cond (ltb (length (once_from [] (leading_codes items))) n) 1 (items_refusal items)) (zero-add (length (leading_codes items)))

-- ---- what is kept are points, none of them twice

leading-points : (items : List (List ℕ)) → Points (leading_codes items)
unfolding leading_codes
leading-points [] = tt
leading-points (item ∷ items) = go (decide (eqb (item_refusal item) 0)) (leading-points items)
  where
    go : (eqb (item_refusal item) 0 ≡ true) ⊎ (eqb (item_refusal item) 0 ≡ false) → Points (leading_codes items)
        → Points (cond (eqb (item_refusal item) 0) (item_code item ∷ leading_codes items) [])
    go (inl t) ih = rw t (item-small item (eqb-true (item_refusal item) 0 t), ih)
    go (inr t) ih = rw t tt

module _ (s : List ℕ) where
  pub kept-points : Points (kept_of s)
  unfolding leading_in once_of
  kept-points = rw (kept-once s) (once-points [] (leading_in s) tt (leading-points (parts comma (trim s))))

  pub kept-none-twice : Once (kept_of s)
  unfolding once_of
  kept-none-twice = rw (kept-once s) (once-kept [] (leading_in s) tt)

  pub kept-short : length (kept_of s) ≤ 225
  kept-short = once-short (kept_of s) kept-none-twice kept-points

-- ---- what the reader refuses of a list is the letter or the number of one of its points

Read : ℕ → Type 0
Read n = (n ≡ 0) ⊎ ((n ≡ no_column) ⊎ (n ≡ no_row))

place-read : (x n : ℕ) → Read (place_refusal x n)
unfolding place_refusal first unless Read
place-read x n = go (ltb x 15) (leb 1 n && leb n 15)
  where
    go : (a b : Bool) → Read (first (unless a no_column) (unless b no_row))
    go true true = inl refl
    go true false = inr (inr refl)
    go false b = inr (inl refl)

items-read : (items : List (List ℕ)) → Read (items_refusal items)
unfolding items_refusal item_refusal first Read
items-read [] = inl refl
items-read (item ∷ items) = go (place-read (column_in item) (row_in item)) (items-read items)
  where
    go : Read (item_refusal item) → Read (items_refusal items) → Read (first (item_refusal item) (items_refusal items))
    go (inl z) r = rw z r
    go (inr (inl z)) r = rw z (inr (inl refl))
    go (inr (inr z)) r = rw z (inr (inr refl))

-- so an item's reason is 1 for a repeat, or one of these; 0 where none slips
Reasoned : ℕ → Type 0
Reasoned n = (n ≡ repeated) ⊎ Read n

reasoned : (s : List ℕ) → Reasoned (reason_of s)
unfolding points_refusal Reasoned
reasoned s = rw (why-slip s) (go (ltb (length (once_of (leading_in s))) (length (leading_in s))))
  where
    go : (t : Bool) → Reasoned (cond t 1 (items_refusal (parts comma (trim s))))
    go true = inl refl
    go false = inr (items-read (parts comma (trim s)))

-- the reader's refusal named is the reason of its number
unread-named : (n i : ℕ) → Read n → unread (option_map (λ (w : Slip). w.refusal) (slip_at n i)) ≡ reason_named n
unfolding slip_at reason_named Read
unread-named n i (inl z) = rw z
unread-named n i (inr (inl z)) = rw z
unread-named n i (inr (inr z)) = rw z

-- the numbers of the item that slips
slip-numbers : (kept : List ℕ) (n : ℕ) → Reasoned n
    → (slip_item (slip_behind kept (reason_named n)) ≡ number_of_slip kept n) × (slip_reason (slip_behind kept (reason_named n)) ≡ n)
unfolding reason_named number_of_slip Reasoned Read
slip-numbers kept n (inl z) = rw z (refl, refl)
slip-numbers kept n (inr (inl z)) = rw z (refl, refl)
slip-numbers kept n (inr (inr (inl z))) = rw z (refl, refl)
slip-numbers kept n (inr (inr (inr z))) = rw z (refl, refl)

-- ---- as the code finds it: n codes of those that were read stand before the first repeat

module _ (s : List ℕ) (r : Leading) (n : ℕ) (moves : List ℕ) (e : r ≡ list_found s) (em : moves ≡ r.codes) (en : n ≡ length (once_of moves)) where
  moves-are : moves ≡ leading_in s
  unfolding list_found
  moves-are = em ∙ ap (λ (l : Leading). l.codes) e

  n-is : n ≡ length (kept_of s)
  n-is = en ∙ ap (λ (l : List ℕ). length (once_of l)) moves-are ∙ ap length (sym (kept-once s))

  front : take n moves ≡ kept_of s
  front =
      let (rest, whole) = once-front (leading_in s) in
      ap₂ take n-is (moves-are ∙ whole ∙ ap (λ (l : List ℕ). l ++ rest) (sym (kept-once s)))
      ∙ take_at (kept_of s) rest (length (kept_of s)) (omega arith)

  -- a repeat: it is among the codes that were read
  pub repeat-found : n < length moves → (kept : List ℕ) → kept ≡ take n moves → mended_with kept (Some Repeated) ≡ mended_found s
  unfolding mended_found reason_named
  repeat-found h kept k =
      let l : length (once_of (leading_in s)) < length (leading_in s) = omega (arith, n-is, ap length (kept-once s), ap length moves-are) in
      let why : reason_of s ≡ 1 = why-slip s ∙ rw (lt-ltb (length (once_of (leading_in s))) (length (leading_in s)) l) in
      rw (k, front, why)

  -- no repeat: all that was read is kept, and what the reader refuses is the reason
  pub reader-found : length moves ≤ n → (why : Option Reason) → why ≡ unread (option_map (λ (w : Slip). w.refusal) r.slip)
      → mended_with moves why ≡ mended_found s
  unfolding mended_found list_found points_refusal
  reader-found h why ew =
      let l : length (leading_in s) ≤ length (once_of (leading_in s)) = omega (arith, n-is, ap length (kept-once s), ap length moves-are) in
      let all : moves ≡ kept_of s = sym (take_all n moves h) ∙ front in
      let named : why ≡ reason_named (reason_of s)
      = ew ∙ ap (λ (x : Leading). unread (option_map (λ (w : Slip). w.refusal) x.slip)) e
      ∙ unread-named (points_refusal s) (slip_in s) (items-read (parts comma (trim s)))
      ∙ ap reason_named (sym (why-slip s ∙ rw (le-ltb (length (once_of (leading_in s))) (length (leading_in s)) l))) in
      ap₂ mended_with all named

  pub moves-short : length (take n moves) ≤ 225
  moves-short = omega (arith, ap length front, kept-short s)

  pub all_short : length moves ≤ n → length moves ≤ 225
  all_short h = omega (arith, n-is, kept-short s, h)

-- ---- what is given back by value, and its two lines

module _ (s : List ℕ) (m : Mended) (e : m ≡ mended_found s) where
  kept-are : m.moves ≡ kept_of s
  unfolding mended_found
  kept-are = ap (λ (x : Mended). x.moves) e

  pub mended-lines : two_lines m.moves (slip_item m.slip) (slip_reason m.slip) ≡ mended_text s
  unfolding mended_found mended_text
  mended-lines =
      let numbers = slip-numbers (kept_of s) (reason_of s) (reasoned s) in
      let slip = ap (λ (x : Mended). x.slip) e in
      rw (kept-are, slip, numbers.0, numbers.1)

  -- they are points, at most 225
  pub moves-good : (length m.moves ≤ 225) × (codes_refusal m.moves ≡ 0)
  moves-good = (
    omega (arith, ap length kept-are, kept-short s),
    ap codes_refusal kept-are ∙ points-pass (kept_of s) (kept-none-twice s) (kept-points s),
  )

-- ---- the loop that looks for the first repeat: the codes before place i are kept; `part` is these

module _ (codes : List ℕ) (i : ℕ) (seen : once_of codes ≡ once_from (take i codes) (drop i codes)) where
  pub seen_end : i ≤ length codes → length codes ≤ i → i ≡ length (once_of codes)
  unfolding once_from
  seen_end h k =
      let none : drop i codes ≡ [] = nothing (drop i codes) (omega (arith, length-drop i codes)) in
      sym (ap length (seen ∙ ap (once_from (take i codes)) none) ∙ length-take-le i codes h)
    where
      nothing : (l : List ℕ) → length l ≤ 0 → l ≡ []
      nothing [] e = refl
      nothing (c ∷ l) e = absurd (omega arith)

  module _ (h : i < length codes) (part : List ℕ) (ep : part ≡ take i codes) where
    next : once_of codes
        ≡ cond (has (get_or codes i 0) part) part (once_from (part ++ (get_or codes i 0 ∷ [])) (drop (suc i) codes))
    unfolding once_from
    next =
        seen ∙ ap (once_from (take i codes)) (drop-cons codes i 0 h)
        ∙ ap (λ (l : List ℕ). cond (has (get_or codes i 0) l) l (once_from (l ++ (get_or codes i 0 ∷ [])) (drop (suc i) codes))) (sym ep)

    long : length part ≡ i
    long = ap length ep ∙ length-take-le i codes (omega arith)

    pub seen-repeat : has (get_or codes i 0) part ≡ true → i ≡ length (once_of codes)
    seen-repeat k =
        let stops : once_of codes ≡ part = next ∙ rw k in
        sym (ap length stops ∙ long)

    pub seen_more : has (get_or codes i 0) part ≡ false → once_of codes ≡ once_from (take (i + 1) codes) (drop (i + 1) codes)
    seen_more k =
        next
        ∙ rw k
        (ap (λ (l : List ℕ). once_from (l ++ (get_or codes i 0 ∷ [])) (drop (suc i) codes)) ep
        ∙ ap (λ (l : List ℕ). once_from l (drop (suc i) codes)) (sym (take-suc codes i 0 h))
        ∙ ap (λ (n : ℕ). once_from (take n codes) (drop n codes)) (sym (add-one i)))
