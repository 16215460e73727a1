-- The points to try: how they are marked, that those after an attack are among them, and that no line begins elsewhere. Assumes nothing.
use mathlib.Core.Path.{◌≡◌, refl, ap, ap₂, sym, subst, subst₂, ◌∙◌, fun_ext}
use mathlib.Core.Logic.{◌⊎◌, inl, inr}
use mathlib.Core.Bool.{and-true, Bool, true, false, not, ◌&&◌, ◌||◌, cond}
use mathlib.Core.List.{List, [], ◌∷◌}
use Prim.Native.Nat.{ℕ, zero, suc, ◌+◌, ◌-◌, ◌/◌, ◌%◌, ◌≤◌, ◌<◌}
use native.Mathlib.Nat.{le_of_suc-le-suc, eq-or-lt_of_le}
use native.Mathlib.Omega.{arith}
use native.Mathlib.Decide.{ℕ_discrete}
use lib.Bits.{bit_and}
use lib.Dec.{T, eqb, leb, ltb, eqb→eq, leb→le, le→leb, lt→ltb}
use lib.ListN.{length, get_or, set, length-set}
use lib.Seq.{get_or-set_same, get_or-set_other}
use borrow.Author.Tests.{eq-eqb, leb-true, leb-false}
use Rattle.rules.specs.Numbers.{colour_no, is_black, opponent_of}
use Rattle.rules.specs.Tools.{any_below, all_below}
use Rattle.rules.specs.Bit.{bit, mask_of}
use Rattle.rules.specs.Line.{Stones, inside, free, count, holds, scores, among, no_stone, row_at, empty_at, spread_at, eyes_of}
use Rattle.rules.specs.Point.{line_no, cell_no, line_count, line_size, point_at, stored, stored_at, key_dir, key_no, key_size, key_point}
use Rattle.rules.specs.Grid.{value_of, is_empty, put, stone_at, row_on, rows_through, starts_of, numbered, next_from}
use Rattle.rules.specs.Forbidden.{some_row}
use Rattle.rules.specs.declared.Player.{Player}
use Rattle.rules.specs.declared.RowKind.TheVariants.{Sword, Four}
use Rattle.rules.proofs.Logic.{T_true, true-T, along, decide, and_left, and_right, and_intro, or_left, or_right, or_cases}
use Rattle.rules.proofs.Logic.{false-not, any-intro, all-elim}
use Rattle.rules.proofs.Bits.{bit-and, bit_mask}
use Rattle.rules.proofs.Address.{point-here, line-here, cell-here, size-le, stored-long, key-lt, key-dir, key-no, key_dir-lt}
use Rattle.rules.proofs.Rows.{stone-here}
use Rattle.rules.proofs.Changes.{stone-off}
use Rattle.rules.proofs.More.{some_row-elim}
use Rattle.rules.proofs.Numbered.{next-ge, next-none}
use Rattle.masks.specs.Masks.{placed}
use Rattle.grid.specs.Lines.{cell_of, cells_of, Sound, shows}
use Rattle.point.specs.declared.place.Place.{Place}
use Rattle.point.specs.Places.{has_place, place_of}
use Rattle.point.proofs.Stored.{place-has, place-key, place-stored}
use Rattle.grid.proofs.Lines.{cell-on, shows-sound, line_at}
use Rattle.hint.specs.Hint.{after_both}
use Rattle.hint.specs.Planner.{or_else, first_line, line_from, plan_from}
use Rattle.hint.specs.Seen.{Quiet, Forced, AttackIs, marked, Kept, MarkedIf, MarkedCells, Threat, MarkedLine, MarkedThrough}
use Rattle.hint.specs.Seen.{Covers, hot_cell, NextTry}
use Rattle.hint.specs.declared.attack.Attack.TheVariants as attack
use Rattle.hint.proofs.OneLine.{Scored, scores-says}
use Rattle.hint.proofs.Stone.{no_other, empty-none, within, scores-before, still-empty}
use Rattle.hint.proofs.Attacks.{taken-no, no-sword-no}
use Rattle.hint.proofs.Checked.{is-legal, reply-lt, reply-free}
use Rattle.hint.proofs.Searched.{line-no}

-- ---- marks

pub kept_same : (m : List ℕ) → Kept m m
kept_same m = record { long = refl; still = λ p h t. t }

pub kept_then : {m n k : List ℕ} → Kept m n → Kept n k → Kept m k
kept_then a b = record { long = b.long ∙ a.long; still = λ p h t. b.still p h (a.still p h t) }

module _ (m : List ℕ) (c : ℕ) (long : length m ≡ 15) (hc : c / 15 < 15) where
  abbrev mask : ℕ
  mask = mask_of 16 (placed (bit (get_or m (c / 15) 0)) (c % 15) true)

  abbrev after : List ℕ
  after = set m (c / 15) (mask_of 16 (placed (bit (get_or m (c / 15) 0)) (c % 15) true))

  -- the masks of c's column
  there : (p : ℕ) → p / 15 ≡ c / 15 → marked after p ≡ placed (bit (get_or m (c / 15) 0)) (c % 15) true (p % 15)
  unfolding marked
  there p e =
      ap (λ (x : ℕ). bit (get_or after x 0) (p % 15)) e
      ∙ ap (λ (v : ℕ). bit v (p % 15)) (get_or-set_same m (c / 15) mask 0 (omega arith))
      ∙ bit_mask 16 (placed (bit (get_or m (c / 15) 0)) (c % 15) true) (p % 15) (omega arith)

  pub mark-kept : Kept m after
  unfolding marked
  mark-kept =
      record { long = length-set m (c / 15) mask; still = λ p h t. go p t (ℕ_discrete (p / 15) (c / 15)) }
    where
      on : (b : Bool) (v : Bool) → T v → T (cond b true v)
      on true v t = tt
      on false v t = t

      go : (p : ℕ) → T (marked m p) → Dec (p / 15 ≡ c / 15) → T (marked after p)
      go p t (yes e) =
          along (sym (there p e))
          (on (eqb (p % 15) (c % 15)) (bit (get_or m (c / 15) 0) (p % 15)) (subst (λ (x : ℕ). T (bit (get_or m x 0) (p % 15))) e t))
      go p t (no n) =
          subst (λ (v : ℕ). T (bit v (p % 15)))
          (sym (get_or-set_other m (c / 15) (p / 15) mask 0 n)) t

  pub mark-here : T (marked after c)
  mark-here =
      along (sym (there c refl))
      (subst (λ (b : Bool). T (cond b true (bit (get_or m (c / 15) 0) (c % 15)))) (sym (eq-eqb (c % 15) (c % 15) refl)) tt)

-- a mark by another name of its point
pub marked-as : (m : List ℕ) (on : Bool) {p q : ℕ} → p ≡ q → MarkedIf true p m → MarkedIf on q m
marked-as m on e is t h = subst (λ (x : ℕ). T (marked m x)) e (is tt (subst (λ (x : ℕ). x < 225) (sym e) h))

-- one cell of a line more
pub cells-none : (k : ℕ) (at : ℕ → Bool) (m : List ℕ) → MarkedCells k 0 at m
cells-none k at m j h = absurd (omega arith)

pub cells-more : (k n : ℕ) (at : ℕ → Bool) (m m' : List ℕ) → MarkedCells k n at m → Kept m m' → {b : Bool} → b ≡ at n
    → MarkedIf b (key_point k n) m' → MarkedCells k (n + 1) at m'
cells-more k n at m m' cells kept {b} e one j h = go (ℕ_discrete j n)
  where
    go : Dec (j ≡ n) → MarkedIf (at j) (key_point k j) m'
    go (yes q) t l =
        subst (λ (x : ℕ). T (marked m' (key_point k x))) (sym q)
        (one (along (ap at q ∙ sym e) t) (subst (λ (x : ℕ). key_point k x < 225) q l))
    go (no o) t l = kept.still (key_point k j) l (cells j (omega arith) t l)

-- ---- the hot cells of a line

module _ (size : ℕ) (small : size ≤ 15) (own other : Stones) (black : Bool) (n j c : ℕ) (is : T (eqb n 3 || eqb n 4))
    (t : T (scores black size own other n j)) (am : T (among 5 j c)) (lt : c < size) (bare : T (no_stone own other c)) where
  said : Scored black size own other n j
  said = scores-says black size own other n j t

  in_window : (j ≤ c) × (c < j + 5)
  in_window = within 0 j c am

  holds-n : T (holds size own other n j)
  unfolding holds
  holds-n =
      and_intro (inside size j && free other j) (eqb (count own j) n)
      (and_intro (inside size j) (free other j) said.in-line said.is_free) (true-T (eq-eqb (count own j) n said.stones))

  three-or-four : T (holds size own other 3 j || holds size own other 4 j)
  three-or-four = go (or_cases (eqb n 3) (eqb n 4) is)
    where
      go : T (eqb n 3) ⊎ T (eqb n 4) → T (holds size own other 3 j || holds size own other 4 j)
      go (inl e) =
          or_left (holds size own other 3 j) (holds size own other 4 j)
          (subst (λ (x : ℕ). T (holds size own other x j)) (eqb→eq n 3 e) holds-n)
      go (inr e) =
          or_right (holds size own other 3 j) (holds size own other 4 j)
          (subst (λ (x : ℕ). T (holds size own other x j)) (eqb→eq n 4 e) holds-n)

  pub hot-there : T (hot_cell size own other c)
  unfolding hot_cell eyes_of spread_at empty_at all_below bit
  hot-there =
      let l = in_window.0 in
      let h = in_window.1 in
      let starts : ℕ → Bool = λ j. holds size own other 3 j || holds size own other 4 j in
      let back : c - (c - j) ≡ j = omega arith in
      let low : j < 16 = omega arith in
      and_intro (any_below 8 (λ k. bit 31 k && (leb k c && bit (mask_of 16 starts) (c - k)))) (ltb c size && no_stone own other c)
      (any-intro 8 (λ k. bit 31 k && (leb k c && bit (mask_of 16 starts) (c - k))) (c - j) (omega arith)
      (and_intro (bit 31 (c - j)) (leb (c - j) c && bit (mask_of 16 starts) (c - (c - j)))
      (all-elim 5 (bit 31) tt (c - j) (omega arith))
      (and_intro (leb (c - j) c) (bit (mask_of 16 starts) (c - (c - j))) (le→leb (c - j) c (omega arith))
      (subst (λ (x : ℕ). T (bit (mask_of 16 starts) x)) (sym back) (along (sym (bit_mask 16 starts j low)) three-or-four)))))
      (and_intro (ltb c size) (no_stone own other c) (lt→ltb c size lt) bare)

-- marks of the hot cells are the marks of the line
module _ (r : Player) (l : List ℕ) (k : ℕ) (s : Sound l) (hk : k < 72) {v : ℕ}
    (ev : v ≡ mask_of 16 (hot_cell (key_size k) (shows r l k) (shows (opponent_of r) l k))) (m : List ℕ) where
  pub line_marked : MarkedCells k 15 (bit v) m → MarkedLine r (cells_of l) (key_dir k) (key_no k) m
  unfolding key_size key_point no_stone
  line_marked cells p j hp on empty am th =
      let d = key_dir k in
      let i = key_no k in
      let hd : d < 4 = key_dir-lt k hk in
      let c = cell_no d p in
      let size = line_size d i in
      let own = stone_at r (cells_of l) d i in
      let other = stone_at (opponent_of r) (cells_of l) d i in
      let lt : c < size = subst (λ (x : ℕ). c < line_size d x) on (cell-here d p hd hp) in
      let small = size-le d i in
      let bare : (who : Player) → T (not (stone_at who (cells_of l) d i c)) =
      λ who. false-not (ap (λ (x : ℕ). stone_at who (cells_of l) d x c) (sym on) ∙ stone-here who (cells_of l) d p hd hp
      ∙ empty-none who (get_or (cells_of l) p 0) empty) in
      let hot = hot-there size small own other (is_black r) th.n j c th.is th.scored am lt
      (and_intro (not (own c)) (not (other c)) (bare r) (bare (opponent_of r))) in
      let told : v ≡ mask_of 16 (hot_cell size own other) =
      ev ∙ ap₂ (λ (f g : Stones). mask_of 16 (hot_cell size f g)) (shows-sound r l k s hk) (shows-sound (opponent_of r) l k s hk) in
      let here : point_at d i c ≡ p = ap (λ (x : ℕ). point_at d x c) (sym on) ∙ point-here d p hd hp in
      subst (λ (x : ℕ). T (marked m x)) here
      (cells c (omega arith) (along (sym (ap (λ (x : ℕ). bit x c) told ∙ bit_mask 16 (hot_cell size own other) c (omega arith))) hot)
      (subst (λ (x : ℕ). x < 225) (sym here) hp))

-- a line that is too short to be stored has no window
pub short-line : (r : Player) (cells : List ℕ) (d i : ℕ) → d < 4 → i < line_count d → stored d i ≡ false → (m : List ℕ)
    → MarkedLine r cells d i m
unfolding inside
short-line r cells d i hd hi e m p j hp on empty am th =
    absurd (along (sym (stored-long d i hd hi) ∙ e)
    (le→leb 5 (line_size d i) (let fits = scored-inside in omega arith)))
  where
    scored-inside : j + 5 ≤ line_size d i
    scored-inside =
        leb→le (j + 5) (line_size d i)
        (scores-says (is_black r) (line_size d i) (stone_at r cells d i) (stone_at (opponent_of r) cells d i) th.n j th.scored).in-line

-- marks that are kept stay marks of the line
pub line_kept : (r : Player) (cells : List ℕ) (d i : ℕ) {m n : List ℕ} → Kept m n → MarkedLine r cells d i m → MarkedLine r cells d i n
line_kept r cells d i k line p j hp on empty am th = k.still p hp (line p j hp on empty am th)

-- the line through p by its address
module _ (r : Player) (cells : List ℕ) (d p : ℕ) (hd : d < 4) (hp : p < 225) {a : Place} (ea : a ≡ place_of d p) (m : List ℕ) where
  pub along-line : a.stored ≡ true → MarkedLine r cells (key_dir a.key) (key_no a.key) m → MarkedLine r cells d (line_no d p) m
  along-line e line =
      let th = line_at d p hd (true-T (place-has d p ea e)) in
      subst₂ (λ (x y : ℕ). MarkedLine r cells x y m) (ap key_dir (place-key d p ea e) ∙ th.dir)
      (ap key_no (place-key d p ea e) ∙ th.no) line

  pub along-none : a.stored ≡ false → MarkedLine r cells d (line_no d p) m
  unfolding has_place stored_at
  along-none e =
      short-line r cells d (line_no d p) hd (line-here d p hd hp)
      (let on : ltb p 225 ≡ true = T_true (lt→ltb p 225 hp) in
      let has : has_place d p ≡ stored d (line_no d p) = ap (λ (b : Bool). b && stored d (line_no d p)) on in
      sym has ∙ sym (place-stored d p ea) ∙ e) m

-- all four lines
pub through-four : (r : Player) (cells : List ℕ) (p : ℕ) (m : List ℕ) → MarkedLine r cells 0 (line_no 0 p) m
    → MarkedLine r cells 1 (line_no 1 p) m
    → MarkedLine r cells 2 (line_no 2 p) m → MarkedLine r cells 3 (line_no 3 p) m → MarkedThrough r cells p m
through-four r cells p m v h a e zero lt = v
through-four r cells p m v h a e (suc zero) lt = h
through-four r cells p m v h a e (suc (suc zero)) lt = a
through-four r cells p m v h a e (suc (suc (suc zero))) lt = e
through-four r cells p m v h a e (suc (suc (suc (suc k)))) lt = absurd (omega arith)

-- ---- the whole board, key by key

abbrev pub Keyed : Player → List ℕ → ℕ → List ℕ → Type 0
Keyed r cells n m = (k : ℕ) → k < n → MarkedLine r cells (key_dir k) (key_no k) m

pub keyed-none : (r : Player) (cells m : List ℕ) → Keyed r cells 0 m
keyed-none r cells m k h = absurd (omega arith)

pub keyed-more : (r : Player) (cells : List ℕ) (n : ℕ) (m m' : List ℕ) → Keyed r cells n m → Kept m m'
    → MarkedLine r cells (key_dir n) (key_no n) m' → Keyed r cells (n + 1) m'
keyed-more r cells n m m' ks kept line k h = go (ℕ_discrete k n)
  where
    go : Dec (k ≡ n) → MarkedLine r cells (key_dir k) (key_no k) m'
    go (yes e) = subst (λ (x : ℕ). MarkedLine r cells (key_dir x) (key_no x) m') (sym e) line
    go (no o) = line_kept r cells (key_dir k) (key_no k) kept (ks k (omega arith))

pub keyed-covers : (r : Player) (cells m : List ℕ) → Keyed r cells 72 m → Covers r cells m
keyed-covers r cells m ks d i hd hi = go (decide (stored d i))
  where
    go : (stored d i ≡ true) ⊎ (stored d i ≡ false) → MarkedLine r cells d i m
    go (inl e) =
        let st = true-T e in
        subst₂ (λ (x y : ℕ). MarkedLine r cells x y m) (key-dir d i hd hi st) (key-no d i hd hi st)
        (ks _ (key-lt d i hd hi st))
    go (inr e) = short-line r cells d i hd hi e m

-- ---- after an attack at p and its reply at e

module _ (r : Player) (cells : List ℕ) (p e : ℕ) (long : length cells ≡ 225) (hp : p < 225) (np : T (is_empty (get_or cells p 0)))
    (he : e < 225) (ne : T (is_empty (get_or (put r cells p) e 0))) where
  -- a window on a line without p scored before
  was-threat : (d i j : ℕ) → d < 4 → i < line_count d → (line_no d p ≡ i → ⊥) → Threat r (after_both r cells p e) d i j → Threat r cells d i j
  was-threat d i j hd hi off th =
      record {
        n = th.n;
        is = th.is;
        scored = subst₂ (λ (a b : Stones). T (scores (is_black r) (line_size d i) a b th.n j))
            (fun_ext (stone-off r cells d i p (colour_no r) hd hi off))
            (fun_ext (stone-off (opponent_of r) cells d i p (colour_no r) hd hi off))
            (scores-before (put r cells p) e (length-set cells p (colour_no r) ∙ long) he ne d i hd hi r (opponent_of r) th.n j
            (no_other r) th.scored);
      }

  pub covers-next : (m n : List ℕ) → Covers r cells m → Kept m n → MarkedThrough r (after_both r cells p e) p n
      → Covers r (after_both r cells p e) n
  covers-next m n all kept through d i hd hi q j hq on empty am th = go (ℕ_discrete (line_no d p) i)
    where
      go : Dec (line_no d p ≡ i) → T (marked n q)
      go (yes same) =
          through d hd q j hq (on ∙ sym same) empty am (subst (λ (x : ℕ). Threat r (after_both r cells p e) d x j) (sym same) th)
      go (no off) =
          kept.still q hq (all d i hd hi q j hq on
          (still-empty cells p long hp np r q
          (still-empty (put r cells p) e (length-set cells p (colour_no r) ∙ long) he ne (opponent_of r) q empty))
          am (was-threat d i j hd hi off th))

-- as the search comes there
pub covers-both : (r : Player) (cells : List ℕ) (p e : ℕ) → Forced r cells p e → length cells ≡ 225 → (m n : List ℕ)
    → Covers r cells m → Kept m n → {board : List ℕ} → board ≡ after_both r cells p e → MarkedThrough r board p n → Covers r board n
covers-both r cells p e f long m n all kept {board} eb through =
    let l = is-legal r cells p e f in
    subst (λ (c : List ℕ). Covers r c n) (sym eb)
    (covers-next r cells p e long l.lt l.none (reply-lt r cells p e f) (reply-free r cells p e f long) m n all kept
    (subst (λ (c : List ℕ). MarkedThrough r c p n) eb through))

-- ---- no line begins elsewhere

module _ (r : Player) (cells : List ℕ) (long : length cells ≡ 225) (quiet : Quiet r cells) (m : List ℕ) (all : Covers r cells m)
    (p : ℕ) (hp : p < 225) (none : T (is_empty (get_or cells p 0)) → marked m p ≡ false) where
  unmarked-no : AttackIs r cells p attack.No
  unfolding rows_through row_on row_at
  unmarked-no = go (decide (is_empty (get_or cells p 0)))
    where
      met : (d j n : ℕ) → d < 4 → T (is_empty (get_or cells p 0)) → T (eqb n 3 || eqb n 4) → T (among 5 j (cell_no d p))
          → T (scores (is_black r) (line_size d (line_no d p)) (stone_at r cells d (line_no d p))
          (stone_at (opponent_of r) cells d (line_no d p)) n j)
          → ⊥
      met d j n hd bare is am t =
          along (none bare) (all d (line_no d p) hd (line-here d p hd hp) p j hp refl bare am (record { n = n; is = is; scored = t }))

      four : T (is_empty (get_or cells p 0)) → (b : Bool) → some_row (rows_through r Four cells p) ≡ b → b ≡ false
      four bare false e = refl
      four bare true e =
          let (d, j, hd, hj, t) = some_row-elim (rows_through r Four cells p) (true-T e) in
          absurd (met d j 4 hd bare tt (and_left (among 5 j (cell_no d p)) (row_on r Four cells d (line_no d p) j) t)
          (and_right (among 5 j (cell_no d p)) (row_on r Four cells d (line_no d p) j) t))

      sword : T (is_empty (get_or cells p 0)) → (b : Bool) → some_row (rows_through r Sword cells p) ≡ b → b ≡ false
      sword bare false e = refl
      sword bare true e =
          let (d, j, hd, hj, t) = some_row-elim (rows_through r Sword cells p) (true-T e) in
          absurd (met d j 3 hd bare tt (and_left (among 5 j (cell_no d p)) (row_on r Sword cells d (line_no d p) j) t)
          (and_right (among 5 j (cell_no d p)) (row_on r Sword cells d (line_no d p) j) t))

      go : (is_empty (get_or cells p 0) ≡ true) ⊎ (is_empty (get_or cells p 0) ≡ false) → AttackIs r cells p attack.No
      go (inl e) =
          no-sword-no r cells p long hp (true-T e) quiet (four (true-T e) (some_row (rows_through r Four cells p)) refl)
          (sword (true-T e) (some_row (rows_through r Sword cells p)) refl)
      go (inr e) = taken-no r cells p e

  pub unmarked-none : (n : ℕ) → line_from r (plan_from r n) cells p ≡ []
  unmarked-none n = line-no r n cells p unmarked-no refl

-- no line begins with a point that is passed over
pub first-skip : (f : ℕ → List ℕ) (p q : ℕ) → first_line p f ≡ [] → p ≤ q → ((i : ℕ) → p ≤ i → i < q → f i ≡ []) → first_line q f ≡ []
unfolding first_line or_else
first-skip f p zero e h none = ap (λ (k : ℕ). first_line k f) (let z : 0 ≡ p = omega arith in z) ∙ e
first-skip f p (suc q) e h none =
    elim (eq-or-lt_of_le h) [
      | inl z ↦ ap (λ (k : ℕ). first_line k f) (sym z) ∙ e
      | inr l ↦
          let le : p ≤ q = le_of_suc-le-suc l in
          rw (first-skip f p q e le (λ i a b. none i a (omega arith)), none q le (omega arith))
    ]

pub skip-to : (r : Player) (cells : List ℕ) → length cells ≡ 225 → Quiet r cells → (m : List ℕ) → Covers r cells m → (n : ℕ) {from q : ℕ}
    → NextTry m cells from q → from ≤ 225 → first_line from (line_from r (plan_from r n) cells) ≡ []
    → first_line q (line_from r (plan_from r n) cells) ≡ []
skip-to r cells long quiet m all n {from} {q} next h e =
    first-skip (line_from r (plan_from r n) cells) from q e (next.ge h)
    (λ i a b. unmarked-none r cells long quiet m all i (let le = next.le in omega arith) (next.none i a b) n)

-- ---- the next one

empty-bits : (b w : Bool) → T (is_empty (value_of b w)) → T (not b && not w)
empty-bits true w t = absurd t
empty-bits false true t = absurd t
empty-bits false false t = tt

module _ (m l : List ℕ) (p : ℕ) (hp : p < 225) {e k : ℕ}
    (ee : e ≡ mask_of 16 (empty_at 15 (bit (get_or l (p / 15) 0)) (bit (get_or l (72 + p / 15) 0))))
    (ek : k ≡ next_from (numbered (starts_of (bit_and (get_or m (p / 15) 0) e ∷ 0 ∷ 0 ∷ 0 ∷ []))) (p % 15)) where
  -- no empty one in its column before it
  column-none : (q : ℕ) → q < 225 → p ≤ q → q / 15 ≡ p / 15 → q % 15 < k → T (is_empty (get_or (cells_of l) q 0)) → marked m q ≡ false
  unfolding marked numbered starts_of empty_at no_stone cell_of
  column-none q hq a same h empty =
      let none = next-none (numbered (starts_of (bit_and (get_or m (p / 15) 0) e ∷ 0 ∷ 0 ∷ 0 ∷ []))) (p % 15) (q % 15) (omega arith)
      (subst (λ (x : ℕ). q % 15 < x) ek h) in
      let lt : q % 15 < 15 = omega arith in
      let d : q % 15 / 16 ≡ 0 = omega arith in
      let j : q % 15 % 16 ≡ q % 15 = omega arith in
      let bare = empty-bits (bit (get_or l (q / 15) 0) (q % 15)) (bit (get_or l (72 + q / 15) 0) (q % 15))
      (subst (λ (v : ℕ). T (is_empty v)) (sym (cell-on l q hq)) empty) in
      let there : T (ltb (q % 15) 15 && (not (bit (get_or l (p / 15) 0) (q % 15)) && not (bit (get_or l (72 + p / 15) 0) (q % 15)))) =
      and_intro (ltb (q % 15) 15) (not (bit (get_or l (p / 15) 0) (q % 15)) && not (bit (get_or l (72 + p / 15) 0) (q % 15)))
      (lt→ltb (q % 15) 15 lt)
      (subst (λ (x : ℕ). T (not (bit (get_or l x 0) (q % 15)) && not (bit (get_or l (72 + x) 0) (q % 15)))) same bare) in
      ap (λ (x : ℕ). bit (get_or m x 0) (q % 15)) same
      ∙ is-off (q % 15) lt (get_or m (p / 15) 0)
      (ap (λ (x : ℕ). bit x (q % 15)) ee
      ∙ bit_mask 16 (empty_at 15 (bit (get_or l (p / 15) 0)) (bit (get_or l (72 + p / 15) 0))) (q % 15) (omega arith) ∙ T_true there) d j none
    where
      is-off : (y : ℕ) → y < 15 → (v : ℕ) → bit e y ≡ true → y / 16 ≡ 0 → y % 16 ≡ y
          → (ltb (y % 16) 15 && bit (get_or (bit_and v e ∷ 0 ∷ 0 ∷ 0 ∷ []) (y / 16) 0) (y % 16)) ≡ false → bit v y ≡ false
      is-off y lt v on d j none =
          let yes : ltb y 15 ≡ true = T_true (lt→ltb y 15 lt) in
          let same : (ltb (y % 16) 15 && bit (get_or (bit_and v e ∷ 0 ∷ 0 ∷ 0 ∷ []) (y / 16) 0) (y % 16)) ≡ bit (bit_and v e) y =
          rw (d, j, yes) in
          let and : bit (bit_and v e) y ≡ (bit v y && bit e y) = bit-and v e y in
          let whole : (bit v y && bit e y) ≡ bit v y = ap (λ (b : Bool). bit v y && b) on ∙ and-true (bit v y) in
          sym whole ∙ sym and ∙ sym same ∙ none

  -- so none up to it, or to the next column
  pub none-to : (from r : ℕ) → ((q : ℕ) → from ≤ q → q < p → T (is_empty (get_or (cells_of l) q 0)) → marked m q ≡ false)
      → r ≤ p - p % 15 + 15 → r ≤ p - p % 15 + k → (q : ℕ) → from ≤ q → q < r → T (is_empty (get_or (cells_of l) q 0)) → marked m q ≡ false
  none-to from r none a h q b c = go (decide (leb p q))
    where
      go : (leb p q ≡ true) ⊎ (leb p q ≡ false) → T (is_empty (get_or (cells_of l) q 0)) → marked m q ≡ false
      go (inl e) =
          let le : p ≤ q = leb-true p q e in
          let same : q / 15 ≡ p / 15 = omega arith in
          column-none q (omega arith) le same (omega arith)
      go (inr e) = none q b (omega (arith, leb-false p q e))

  pub not_back : p ≤ p - p % 15 + k
  not_back =
      let g = next-ge (numbered (starts_of (bit_and (get_or m (p / 15) 0) e ∷ 0 ∷ 0 ∷ 0 ∷ []))) (p % 15) (omega arith) in
      omega (arith, ek)
