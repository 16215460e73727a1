-- Laws of a point in text and of a comma list, one item a turn. Assumes nothing.
use mathlib.Core.Path.{◌≡◌, refl, ap, sym, ◌∙◌}
use mathlib.Core.Bool.{Bool, true, false, ◌&&◌, cond}
use mathlib.Core.List.{List, [], ◌∷◌, ◌++◌, append-nil, append_assoc}
use Prim.Native.Nat.{ℕ, zero, suc, ◌+◌, ◌*◌, ◌-◌, ◌≤◌, ◌<◌}
use native.Mathlib.Omega.{arith}
use lib.Dec.{eqb, leb}
use lib.ListN.{length, get_or, take, drop, length-append}
use lib.Seq.{take-suc, length-take-le}
use borrow.Author.Tests.{eq-eqb, ne_eqb, eqb-true, eqb-false, leb-true}
use Rattle.std.specs.Prelude.{Option, Some, None, Result, Ok, Err}
use Rattle.rules.specs.Refusals.{first}
use Rattle.rules.specs.Answers.{answer, checked, refusal_named}
use Rattle.rules.specs.declared.refusal.Refusal.{Refusal}
use Rattle.rules.proofs.Refusals.{first-none}
use Rattle.lent.specs.Lists.{kept}
use Rattle.lent.proofs.Laws.{kept_lem}
use Rattle.cells.specs.Cells.{codes_refusal}
use Rattle.text.specs.Bytes.{comma, digit_zero, digit_nine, trim, parts, onto_first}
use Rattle.text.specs.Points.{digit_value, number_of, item_refusal, item_code, items_refusal, item_codes}
use Rattle.text.specs.Points.{leading_codes, slip_number, points_refusal, points_in, leading_in, slip_in, slip_at, list_found}
use Rattle.text.specs.declared.points.Leading.{Leading}
use Rattle.text.specs.declared.points.Slip.{Slip}
use Rattle.text.proofs.Told.{told_ok, told_err, tells_ok, tells_err}
use Rattle.text.proofs.Said.{points-good}
use Rattle.text.proofs.Places.{parts-length, trim-le}
use Rattle.text.proofs.Dense.{next-in, next-is}

-- ---- a number behind a letter
pub digit-small : (b : ℕ) → digit_value b ≤ 16
unfolding digit_value
digit-small b = go (leb b digit_nine) refl (leb digit_zero b)
  where
    go : (t : Bool) → leb b digit_nine ≡ t → (u : Bool) → cond (u && t) (b - digit_zero) 16 ≤ 16
    go true e true = let h = leb-true b digit_nine e in omega arith
    go true e false = omega arith
    go false e true = omega arith
    go false e false = omega arith

pub number-one : (s : List ℕ) → length s ≡ 2 → number_of (drop 1 s) ≡ digit_value (get_or s 1 0)
unfolding number_of
number-one [] h = omega arith
number-one (a ∷ []) h = omega arith
number-one (a ∷ b ∷ []) h = refl
number-one (a ∷ b ∷ e ∷ s) h = omega arith

pub number-two : (s : List ℕ) → length s ≡ 3 → number_of (drop 1 s) ≡ 10 * digit_value (get_or s 1 0) + digit_value (get_or s 2 0)
unfolding number_of
number-two [] h = omega arith
number-two (a ∷ []) h = omega arith
number-two (a ∷ b ∷ []) h = omega arith
number-two (a ∷ b ∷ e ∷ []) h = refl
number-two (a ∷ b ∷ e ∷ f ∷ s) h = omega arith

pub number-none : (s : List ℕ) → (length s ≡ 2 → ⊥) → (length s ≡ 3 → ⊥) → number_of (drop 1 s) ≡ 0
unfolding number_of
number-none [] p q = refl
number-none (a ∷ []) p q = refl
number-none (a ∷ b ∷ []) p q = absurd (p refl)
number-none (a ∷ b ∷ e ∷ []) p q = absurd (q refl)
number-none (a ∷ b ∷ e ∷ f ∷ s) p q = refl

-- ---- a comma list
module _ (items others : List (List ℕ)) (item : List ℕ) (e : items ≡ item ∷ others) where
  -- its first item is refused: nothing is kept
  module _ (n : item_refusal item ≡ 0 → ⊥) where
    pub items_refused : items_refusal items ≡ item_refusal item
    unfolding items_refusal first
    items_refused = rw (e, ne_eqb (item_refusal item) 0 n)

    pub codes-none : leading_codes items ≡ []
    unfolding leading_codes
    codes-none = rw (e, ne_eqb (item_refusal item) 0 n)

  -- its first item is read
  module _ (z : item_refusal item ≡ 0) where
    pub items_more : items_refusal items ≡ items_refusal others
    unfolding items_refusal first
    items_more = rw (e, eq-eqb (item_refusal item) 0 z)

    pub codes-more : leading_codes items ≡ item_code item ∷ leading_codes others
    unfolding leading_codes
    codes-more = rw (e, eq-eqb (item_refusal item) 0 z)

pub items-none : items_refusal [] ≡ 0
unfolding items_refusal
items-none = refl

-- where no item is refused, all codes are kept
pub codes_all : (items : List (List ℕ)) → items_refusal items ≡ 0 → leading_codes items ≡ item_codes items
unfolding items_refusal leading_codes item_codes
codes_all [] z = refl
codes_all (item ∷ items) z =
    let n = first-none (item_refusal item) (items_refusal items) z in
    rw (eq-eqb (item_refusal item) 0 n.0, codes_all items n.1)

-- one code more, kept behind n others in a list of at most `size` bytes
module _ (size : ℕ) (all : List ℕ) (n code : ℕ) (others : List ℕ) (e : drop n all ≡ code ∷ others) (room : n < size) where
  pub keep-code : (l new : List ℕ) → l ≡ take n all → new ≡ kept size l (code ∷ []) → (length new ≡ n + 1) × (new ≡ take (n + 1) all)
  keep-code l new h k =
      let i : n < length all = next-in 0 all n code others e in
      let long : length l ≡ n = ap length h ∙ length-take-le n all (omega arith) in
      let put : new ≡ l ++ (code ∷ []) = k ∙ kept_lem size l (code ∷ []) (omega arith) in
      let z : n + 1 ≡ suc n = omega arith in
      let c = take-suc all n 0 i in
      let y : take n all ++ (code ∷ []) ≡ take (n + 1) all = rw (z, c, next-is 0 all n code others e) in
      (omega (arith, ap length put, length-append l (code ∷ [])), put ∙ ap (λ (x : List ℕ). x ++ (code ∷ [])) h ∙ y)

-- ---- the loop over the items: the codes that are kept, and the items that are left
pub record Reading (s codes : List ℕ) (left : List (List ℕ)) : Type 0 where
  pub codes_are : leading_codes (parts comma (trim s)) ≡ codes ++ leading_codes left
  pub refusal : items_refusal (parts comma (trim s)) ≡ items_refusal left
  pub room : length codes + length left ≤ 4097

pub reading-none : (s t : List ℕ) → length s ≤ 4096 → t ≡ trim s → Reading s [] (parts comma t)
reading-none s t h e =
    rw e (record {
      codes_are = refl;
      refusal = refl;
      room = omega (arith, parts-length comma (trim s), trim-le s);
    })

module _ (s codes : List ℕ) (left : List (List ℕ)) (h : Reading s codes left) where
  -- where none are left all are read
  pub reading-end : left ≡ [] → ◌≡◌ {A = Leading} (record { codes = codes; slip = None }) (list_found s)
  unfolding list_found leading_in leading_codes slip_at points_refusal items_refusal
  reading-end e =
      let a : leading_codes (parts comma (trim s)) ≡ codes
      = h.codes_are ∙ ap (λ (l : List (List ℕ)). codes ++ leading_codes l) e ∙ append-nil codes in
      let b : items_refusal (parts comma (trim s)) ≡ 0 = h.refusal ∙ ap items_refusal e in
      rw (a, b)

  module _ (item : List ℕ) (others : List (List ℕ)) (e : left ≡ item ∷ others) where
    -- an item is read
    pub reading-more : item_refusal item ≡ 0 → (code : ℕ) → code ≡ item_code item → (new : List ℕ) → new ≡ kept 4097 codes (code ∷ [])
        → Reading s new others
    reading-more z code ec new k =
        let n = ap length e in
        let r = h.room in
        let put = k ∙ kept_lem 4097 codes (code ∷ []) (omega arith) in
        record {
          codes_are =
              h.codes_are ∙ rw (codes-more left others item e z, ← ec) (sym (append_assoc codes (code ∷ []) (leading_codes others)) ∙ ap (λ (l : List ℕ). l ++ leading_codes others) (sym put));
          refusal = h.refusal ∙ items_more left others item e z;
          room = omega (arith, ap length put, length-append codes (code ∷ []));
        }

    -- .. or refused: it is the one behind those that are kept
    pub reading-slip : (item_refusal item ≡ 0 → ⊥) → (refused : Refusal) → refused ≡ refusal_named (item_refusal item)
        → ◌≡◌ {A = Leading} (record { codes = codes; slip = Some (record { item = length codes + 1; refusal = refused }) }) (list_found s)
    unfolding list_found leading_in slip_at slip_in slip_number points_refusal
    reading-slip n refused er =
        let a : leading_codes (parts comma (trim s)) ≡ codes = h.codes_are ∙ ap (λ (l : List ℕ). codes ++ l) (codes-none left others item e n) ∙ append-nil codes in
        let b : items_refusal (parts comma (trim s)) ≡ item_refusal item = h.refusal ∙ items_refused left others item e n in
        rw (a, b, ne_eqb (item_refusal item) 0 n, er)

-- no item is refused: none has a number
pub slip-none : (s : List ℕ) → points_refusal s ≡ 0 → 0 ≡ slip_in s
unfolding slip_in slip_number points_refusal
slip-none s z = rw (eq-eqb (points_refusal s) 0 z)

-- ---- what a list says: all its codes, where none is refused
module _ (s : List ℕ) (r : Leading) (h : r ≡ list_found s) where
  found-slip : r.slip ≡ slip_at (points_refusal s) (slip_in s)
  unfolding list_found
  found-slip = ap (λ (l : Leading). l.slip) h

  found-whole : r.slip ≡ None → points_refusal s ≡ 0
  unfolding slip_at
  found-whole e = none (points_refusal s) (slip_in s) (sym found-slip ∙ e)
    where
      none : (n i : ℕ) → slip_at n i ≡ None → n ≡ 0
      none n i e = go (eqb n 0) refl e
        where
          go : (t : Bool) → eqb n 0 ≡ t → cond {A = Option Slip} t None (Some (record { item = i; refusal = refusal_named n })) ≡ None → n ≡ 0
          go true z p = eqb-true n 0 z
          go false z p = absurd cc

  codes-are : r.slip ≡ None → r.codes ≡ points_in s
  unfolding list_found leading_in points_in points_refusal
  codes-are e = ap (λ (l : Leading). l.codes) h ∙ codes_all (parts comma (trim s)) (found-whole e)

  pub codes-said : r.slip ≡ None → ◌≡◌ {A = Result (List ℕ) Refusal} (Ok r.codes) (answer (points_refusal s) (points_in s))
  codes-said e = rw (codes-are e) (tells_ok (points_refusal s) (points_in s) (found-whole e))

  pub codes-good : r.slip ≡ None → codes_refusal r.codes ≡ 0
  codes-good e = ap codes_refusal (codes-are e) ∙ points-good s (found-whole e)

  pub codes-refused : (slip : Slip) → r.slip ≡ Some slip
      → ◌≡◌ {A = Result (List ℕ) Refusal} (Err slip.refusal) (answer (points_refusal s) (points_in s))
  unfolding slip_at
  codes-refused slip e =
      let z = some (points_refusal s) (slip_in s) (sym found-slip ∙ e) in
      rw z.1 (tells_err (points_refusal s) (points_in s) z.0)
    where
      some : (n i : ℕ) → slip_at n i ≡ Some slip → (n ≡ 0 → ⊥) × (slip.refusal ≡ refusal_named n)
      some n i e = go (eqb n 0) refl e
        where
          go : (t : Bool) → eqb n 0 ≡ t → cond {A = Option Slip} t None (Some (record { item = i; refusal = refusal_named n })) ≡ Some slip
              → (n ≡ 0 → ⊥) × (slip.refusal ≡ refusal_named n)
          go true z p = absurd cc
          go false z p =
              let q : ◌≡◌ {A = Slip} (record { item = i; refusal = refusal_named n }) slip = cc in
              (eqb-false n 0 z, ap (λ (w : Slip). w.refusal) (sym q))

-- .. as its two parts tell: the codes, and the item that slips
module _ (s codes : List ℕ) (slip : Option Slip) (h : (codes ≡ (list_found s).codes) × (slip ≡ (list_found s).slip)) where
  both-found : ◌≡◌ {A = Leading} (record { codes = codes; slip = slip }) (list_found s)
  unfolding list_found
  both-found = rw (h.0, h.1)

  pub all-kept : slip ≡ None → (points_refusal s ≡ 0) × (codes ≡ points_in s)
  all-kept e = told_ok (points_refusal s) (points_in s) codes (codes-said s _ both-found e)

  pub all-read : slip ≡ None → ◌≡◌ {A = Result Unit Refusal} (Ok tt) (checked (points_refusal s))
  all-read e = tells_ok (points_refusal s) tt (all-kept e).0

  pub all-good : slip ≡ None → codes_refusal codes ≡ 0
  all-good e = codes-good s _ both-found e

  pub one_refused : (w : Slip) → slip ≡ Some w → ◌≡◌ {A = Result Unit Refusal} (Err w.refusal) (checked (points_refusal s))
  one_refused w e =
      let t = told_err (points_refusal s) (points_in s) w.refusal (codes-refused s _ both-found w e) in
      rw t.1 (tells_err (points_refusal s) tt t.0)
