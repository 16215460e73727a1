-- The eyes of the Fours that an attack makes: each is the gap that is left of a Sword through its point, and each such gap is one. Assumes
-- nothing.
use mathlib.Core.Path.{◌≡◌, refl, sym, subst, ap, ap₂, ◌∙◌}
use mathlib.Core.Bool.{Bool, true, false, not, ◌&&◌}
use Rattle.std.specs.Prelude.{Some, None}
use mathlib.Core.List.{List}
use Prim.Native.Nat.{ℕ, zero, suc, ◌+◌, ◌-◌, ◌*◌, ◌/◌, ◌%◌, ◌≤◌, ◌<◌}
use native.Mathlib.Nat.{add-zero}
use native.Mathlib.Omega.{arith}
use native.Mathlib.Decide.{ℕ_discrete, dec_lt}
use lib.Dec.{T, eqb, ltb, lit<, eqb→eq}
use lib.ListN.{length, get_or, length-set}
use Rattle.rules.specs.Numbers.{colour_no, is_black, opponent_of}
use Rattle.rules.specs.Line.{Stones, count, among, no_stone, empty_at, is_eye, eye_of_some}
use Rattle.rules.specs.Point.{line_no, cell_no, line_size, point_at}
use Rattle.rules.specs.Grid.{is_empty, put, stone_at, row_on, start_masks, starts_of, numbered, next_from, rows_through, four_eye}
use Rattle.rules.specs.Forbidden.{some_row}
use Rattle.rules.specs.declared.Player.{Player}
use Rattle.rules.specs.declared.RowKind.TheVariants.{Sword, Four}
use Rattle.rules.proofs.Logic.{T_true, along, no_true, not-false, false-not, and_left, and_right, any-elim}
use Rattle.rules.proofs.Address.{line-here, point-here, point-lt, line-there, cell-there}
use Rattle.rules.proofs.Rows.{stone-here, row_on-inside}
use Rattle.rules.proofs.Starts.{starts-named, start-low}
use Rattle.rules.proofs.Numbered.{next_le, next-ge, next-on, next-none, next-first, in-line, in_cell}
use Rattle.rules.proofs.More.{some_row-elim}
use Rattle.rules.proofs.Windows.{free-at}
use Rattle.hint.specs.Hint.{is_four_eye, eyes_from}
use Rattle.hint.specs.Seen.{gap_of, sword_eye, OnlyEye}
use Rattle.hint.proofs.OneLine.{Scored, scores-says, four-gap}
use Rattle.hint.proofs.Stone.{four-scores, none-empty, within, in_window}
use Rattle.hint.proofs.Swords.{sword-four}
use Rattle.hint.proofs.Quiet.{is-eye-of}
use Rattle.hint.proofs.Picked.{one-picked, two-picked}

-- ---- four stones on five cells: the gap

pub record Gap (own : Stones) (j : ℕ) : Type 0 where
  pub k : ℕ
  pub lt : k < 5
  pub at : gap_of own j ≡ j + k
  pub none : own (j + k) ≡ false

pub gap-five : (own : Stones) (j : ℕ) → count own j ≡ 4 → Gap own j
unfolding gap_of count
gap-five own j four = first (own j) refl
  where
    fifth : own j ≡ true → own (j + 1) ≡ true → own (j + 2) ≡ true → own (j + 3) ≡ true → (b : Bool) → own (j + 4) ≡ b → Gap own j
    fifth p q r s true t =
        let z : ◌≡◌ {A = ℕ} 5 4 = sym (rw (p, q, r, s, t) refl) ∙ four in absurd (omega arith)
    fifth p q r s false t = record { k = 4; lt = lit< tt; at = rw (p, q, r, s); none = t }

    fourth : own j ≡ true → own (j + 1) ≡ true → own (j + 2) ≡ true → (b : Bool) → own (j + 3) ≡ b → Gap own j
    fourth p q r true s = fifth p q r s (own (j + 4)) refl
    fourth p q r false s = record { k = 3; lt = lit< tt; at = rw (p, q, r, s); none = s }

    third : own j ≡ true → own (j + 1) ≡ true → (b : Bool) → own (j + 2) ≡ b → Gap own j
    third p q true r = fourth p q r (own (j + 3)) refl
    third p q false r = record { k = 2; lt = lit< tt; at = rw (p, q, r); none = r }

    second : own j ≡ true → (b : Bool) → own (j + 1) ≡ b → Gap own j
    second p true q = third p q (own (j + 2)) refl
    second p false q = record { k = 1; lt = lit< tt; at = rw (p, q); none = q }

    first : (b : Bool) → own j ≡ b → Gap own j
    first true p = second p (own (j + 1)) refl
    first false p = record { k = 0; lt = lit< tt; at = rw p (sym (add-zero j)); none = ap own (add-zero j) ∙ p }

-- .. as the code looks for it
pub not_on : {b : Bool} → not b ≡ true → b ≡ false
not_on {b = true} e = absurd (no_true e)
not_on {b = false} e = refl

pub is-on : {b : Bool} → not b ≡ false → b ≡ true
is-on {b = true} e = refl
is-on {b = false} e = absurd (no_true (sym e))

module _ (own : Stones) (j : ℕ) where
  -- the first of four cells without a stone
  pub gap-there : (k : ℕ) → k < 4 → ((i : ℕ) → i < k → own (j + i) ≡ true) → own (j + k) ≡ false → j + k ≡ gap_of own j
  unfolding gap_of
  gap-there zero h all none = let e : own j ≡ false = rw add-zero at none in rw (add-zero, e)
  gap-there (suc zero) h all none = let e : own j ≡ true = rw add-zero at (all 0 (omega arith)) in rw (e, none)
  gap-there (suc (suc zero)) h all none = let e : own j ≡ true = rw add-zero at (all 0 (omega arith)) in rw (e, all 1 (omega arith), none)
  gap-there (suc (suc (suc zero))) h all none = let e : own j ≡ true = rw add-zero at (all 0 (omega arith)) in rw (e, all 1 (omega arith), all 2 (omega arith), none)
  gap-there (suc (suc (suc (suc k)))) h all none = absurd (omega arith)

  -- .. or else the fifth
  pub gap-last : ((i : ℕ) → i < 4 → own (j + i) ≡ true) → j + 4 ≡ gap_of own j
  unfolding gap_of
  gap-last all =
      let e : own j ≡ true = rw add-zero at (all 0 (omega arith)) in
      rw (e, all 1 (omega arith), all 2 (omega arith), all 3 (omega arith))

-- of the walk from Sword to Sword: k is a Sword's number or 64, and the eyes of those before it are all one
pub record Agree (r : Player) (cells : List ℕ) (p first k : ℕ) : Type 0 where
  pub le : k ≤ 64
  pub here : k < 64 → T (rows_through r Sword cells p (k / 16) (k % 16))
  pub before : (m : ℕ) → m < k → T (rows_through r Sword cells p (m / 16) (m % 16)) → sword_eye r cells p (m / 16) (m % 16) ≡ first

-- ---- a Sword through an empty point, after the stone

module _ (r : Player) (cells : List ℕ) (p : ℕ) (long : length cells ≡ 225) (hp : p < 225) (none : T (is_empty (get_or cells p 0))) where
  abbrev board : List ℕ
  board = put r cells p

  board-long : length (put r cells p) ≡ 225
  board-long = length-set cells p (colour_no r) ∙ long

  pub record SwordEye (d j : ℕ) : Type 0 where
    pub lt : sword_eye r cells p d j < 225
    pub empty : T (is_empty (get_or (put r cells p) (sword_eye r cells p d j) 0))
    pub eye : T (is_four_eye r (put r cells p) p (sword_eye r cells p d j))

  module _ (d j : ℕ) (hd : d < 4) (t : T (rows_through r Sword cells p d j)) where
    abbrev i : ℕ
    i = line_no d p

    abbrev own : Stones
    own = stone_at r (put r cells p) d (line_no d p)

    abbrev other : Stones
    other = stone_at (opponent_of r) (put r cells p) d (line_no d p)

    through : T (rows_through r Four (put r cells p) p d j)
    through = along (sword-four r cells p long hp none d j hd) t

    holds-p : T (among 5 j (cell_no d p))
    unfolding rows_through
    holds-p = and_left (among 5 j (cell_no d p)) (row_on r Four board d i j) through

    four : T (row_on r Four (put r cells p) d (line_no d p) j)
    unfolding rows_through
    four = and_right (among 5 j (cell_no d p)) (row_on r Four board d i j) through

    window : Scored (is_black r) (line_size d (line_no d p)) (stone_at r (put r cells p) d (line_no d p))
        (stone_at (opponent_of r) (put r cells p) d (line_no d p)) 4 j
    window = scores-says (is_black r) (line_size d i) own other 4 j (along (four-scores r board d i j) four)

    pub gap : Gap (stone_at r (put r cells p) d (line_no d p)) j
    gap = gap-five own j window.stones

    pub gap-lt : gap_of (stone_at r (put r cells p) d (line_no d p)) j < line_size d (line_no d p)
    gap-lt =
        let a = row_on-inside r Four board d i j four in
        let k = gap.lt in
        let e = gap.at in
        omega arith

    pub sword-eye : SwordEye d j
    unfolding sword_eye
    sword-eye =
        let hi = line-here d p hd hp in
        let e = point_at d i (gap_of own j) in
        let lt : e < 225 = point-lt d i (gap_of own j) hd hi gap-lt in
        let line : line_no d e ≡ i = line-there d i (gap_of own j) hd hi gap-lt in
        let cell : cell_no d e ≡ j + gap.k = cell-there d i (gap_of own j) hd hi gap-lt ∙ gap.at in
        let free : (who : Player) → stone_at who board d i (j + gap.k) ≡ false → eqb (get_or board e 0) (colour_no who) ≡ false =
        λ who q. sym (stone-here who board d e hd lt) ∙ ap (λ (x : ℕ). stone_at who board d x (cell_no d e)) line
        ∙ ap (stone_at who board d i) cell ∙ q in
        let empty : T (is_empty (get_or board e 0)) =
        none-empty r (get_or board e 0) (free r gap.none) (free (opponent_of r) (not-false (free-at other j gap.k gap.lt window.is_free))) in
        record {
          lt = lt;
          empty = empty;
          eye = is-eye-of r cells p long hp none e d j lt hd (sym line) empty holds-p (in_window j (cell_no d e) gap.k gap.lt (sym cell)) four;
        }

    -- an eye of that Four is the gap
    only-gap : (e : ℕ) → e < 225 → line_no d e ≡ line_no d p
        → T (is_eye (line_size d (line_no d p)) (stone_at r (put r cells p) d (line_no d p)) (stone_at (opponent_of r) (put r cells p) d (line_no d p)) Four j
        (cell_no d e)) → e ≡ sword_eye r cells p d j
    unfolding sword_eye is_eye empty_at no_stone
    only-gap e he line t =
        let c = cell_no d e in
        let w = within d j c (and_left (among 5 j c) (ltb c (line_size d i) && (not (own c) && not (other c))) t) in
        let m = c - j in
        let there : j + m ≡ c = omega arith in
        let bare : T (not (own c)) =
        and_left (not (own c)) (not (other c))
        (and_right (ltb c (line_size d i)) (not (own c) && not (other c))
        (and_right (among 5 j c) (ltb c (line_size d i) && (not (own c) && not (other c))) t)) in
        let same : gap.k ≡ m =
        four-gap own j gap.k m gap.lt (omega arith) window.stones (false-not gap.none)
        (subst (λ (x : ℕ). T (not (own x))) (sym there) bare) in
        let cell : c ≡ gap_of own j = sym there ∙ ap (λ (x : ℕ). j + x) (sym same) ∙ sym gap.at in
        sym (point-here d e hd he) ∙ ap (λ (x : ℕ). point_at d x c) line ∙ ap (point_at d i) cell

  -- each eye of an attack is the gap of a Sword
  pub eye-of : (e : ℕ) → e < 225 → T (is_four_eye r (put r cells p) p e)
      → (d j : ℕ) × (d < 4) × (j < 16) × T (rows_through r Sword cells p d j) × (e ≡ sword_eye r cells p d j)
  unfolding is_four_eye four_eye eye_of_some
  eye-of e he t =
      let a = any-elim 4 (λ d. eqb (line_no d e) (line_no d p) && four_eye r board p d (cell_no d e)) t in
      let d = a.0 in
      let i = line_no d p in
      let eye : ℕ → Bool = λ j. is_eye (line_size d i) (stone_at r board d i) (stone_at (opponent_of r) board d i) Four j (cell_no d e) in
      let line : line_no d e ≡ i = eqb→eq (line_no d e) i (and_left (eqb (line_no d e) i) (four_eye r board p d (cell_no d e)) a.2) in
      let b = any-elim 16 (λ j. rows_through r Four board p d j && eye j)
      (and_right (eqb (line_no d e) i) (four_eye r board p d (cell_no d e)) a.2) in
      let j = b.0 in
      let row = and_left (rows_through r Four board p d j) (eye j) b.2 in
      let sword = along (sym (sword-four r cells p long hp none d j a.1)) row in
      (d, j, a.1, b.1, sword, only-gap d j a.1 sword e he line (and_right (rows_through r Four board p d j) (eye j) b.2))

  -- ---- the walk from Sword to Sword

  module _ {masks : List ℕ} (em : masks ≡ start_masks (rows_through r Sword cells p)) where
    abbrev at : ℕ → Bool
    at = numbered (starts_of masks)

    start_is : (k : ℕ) → k < 64 → numbered (starts_of masks) k ≡ rows_through r Sword cells p (k / 16) (k % 16)
    unfolding numbered
    start_is k hk =
        ap (λ (x : List ℕ). starts_of x (k / 16) (k % 16)) em
        ∙ starts-named (rows_through r Sword cells p) (start-low r Sword cells p) (k / 16) (k % 16) (omega arith) (omega arith)

    start-there : (n k : ℕ) → k ≡ next_from (numbered (starts_of masks)) n → k < 64 → T (rows_through r Sword cells p (k / 16) (k % 16))
    start-there n k ek hk =
        along (start_is k hk) (subst (λ (x : ℕ). T (at x)) (sym ek) (next-on at n (subst (λ (x : ℕ). x < 64) ek hk)))

    not-before : (n k m : ℕ) → k ≡ next_from (numbered (starts_of masks)) n → n ≤ m → m < k → T (rows_through r Sword cells p (m / 16) (m % 16)) → ⊥
    not-before n k m ek l h t =
        let top = next_le at n in
        no_true (sym (next-none at n m l (subst (λ (x : ℕ). m < x) ek h)) ∙ start_is m (omega arith) ∙ T_true t)

    pub first-sword : T (some_row (rows_through r Sword cells p)) → {k : ℕ} → k ≡ next_from (numbered (starts_of masks)) 0
        → (k < 64) × T (rows_through r Sword cells p (k / 16) (k % 16))
    unfolding numbered
    first-sword t {k} ek =
        let (d, j, hd, hj, u) = some_row-elim (rows_through r Sword cells p) t in
        let m = 16 * d + j in
        let hm : m < 64 = omega arith in
        let row : T (rows_through r Sword cells p (m / 16) (m % 16)) = rw (in-line d j hj, in_cell d j hj) u in
        let le : next_from at 0 ≤ m = next-first at 0 m (omega arith) (along (sym (start_is m hm)) row) in
        let hk : k < 64 = omega arith in
        (hk, start-there 0 k ek hk)

    pub agree-first : (first : ℕ) {k : ℕ} → k ≡ next_from (numbered (starts_of masks)) 0 → Agree r cells p first k
    agree-first first {k} ek =
        let top = next_le at 0 in
        record {
          le = omega arith;
          here = start-there 0 k ek;
          before = λ m h t. absurd (not-before 0 k m ek (omega arith) h t);
        }

    pub agree-next : (first k : ℕ) → Agree r cells p first k → k < 64 → sword_eye r cells p (k / 16) (k % 16) ≡ first → {k' : ℕ}
        → k' ≡ next_from (numbered (starts_of masks)) (k + 1) → Agree r cells p first k'
    agree-next first k a hk same {k'} ek =
        let top = next_le at (k + 1) in
        record { le = omega arith; here = start-there (k + 1) k' ek; before = λ m h t. go m h t (ℕ_discrete m k) (dec_lt m k) }
      where
        go : (m : ℕ) → m < k' → T (rows_through r Sword cells p (m / 16) (m % 16)) → Dec (m ≡ k) → Dec (m < k)
            → sword_eye r cells p (m / 16) (m % 16) ≡ first
        go m h t (yes e) l = ap (λ (x : ℕ). sword_eye r cells p (x / 16) (x % 16)) e ∙ same
        go m h t (no n) (yes l) = a.before m l t
        go m h t (no n) (no l) = absurd (not-before (k + 1) k' m ek (omega arith) h t)

  -- ---- what is told

  pub several-eyes : (a k : ℕ) → a < 64 → k < 64 → T (rows_through r Sword cells p (a / 16) (a % 16))
      → T (rows_through r Sword cells p (k / 16) (k % 16)) → (sword_eye r cells p (k / 16) (k % 16) ≡ sword_eye r cells p (a / 16) (a % 16) → ⊥)
      → OnlyEye (eyes_from r (put r cells p) p) None
  unfolding eyes_from OnlyEye
  several-eyes a k ha hk ta tk differ =
      let x = sword-eye (a / 16) (a % 16) (omega arith) ta in
      let y = sword-eye (k / 16) (k % 16) (omega arith) tk in
      two-picked (is_four_eye r board p) 225 _ _ y.lt x.lt y.eye x.eye differ

  pub one-eye : (a first : ℕ) → a < 64 → T (rows_through r Sword cells p (a / 16) (a % 16)) → first ≡ sword_eye r cells p (a / 16) (a % 16)
      → (k : ℕ) → 64 ≤ k → Agree r cells p first k → OnlyEye (eyes_from r (put r cells p) p) (Some first)
  unfolding eyes_from OnlyEye
  one-eye a first ha ta ef k hk agree =
      let x = sword-eye (a / 16) (a % 16) (omega arith) ta in
      one-picked (is_four_eye r board p) 225 first (subst (λ (y : ℕ). y < 225) (sym ef) x.lt)
      (subst (λ (y : ℕ). T (is_four_eye r board p y)) (sym ef) x.eye) alone
    where
      alone : (e : ℕ) → e < 225 → T (is_four_eye r board p e) → e ≡ first
      alone e he t =
          let (d, j, hd, hj, u, is) = eye-of e he t in
          let m = 16 * d + j in
          is ∙ ap₂ (λ (x y : ℕ). sword_eye r cells p x y) (sym (in-line d j hj)) (sym (in_cell d j hj))
          ∙ agree.before m (omega arith) (rw (in-line d j hj, in_cell d j hj) u)

-- each step of the walk goes on
pub walk-less : (s : ℕ → Bool) (k : ℕ) → k < 64 → {k' : ℕ} → k' ≡ next_from s (k + 1) → 64 - k' < 64 - k
walk-less s k h e = let g = next-ge s (k + 1) (omega arith) in omega arith
