-- The laws of the stored lines: a write on the lines of some cells gives the lines of the cells with that one changed; the cells are read
-- back; put, remove and any sequence of both act on the cells as on a map. Assumes nothing.
use mathlib.Core.Path.{◌≡◌, refl, ap, ap₂, subst, sym, ◌∙◌}
use mathlib.Core.Bool.{Bool, true, false, ◌&&◌, cond}
use mathlib.Core.Logic.{◌⊎◌, inl, inr}
use mathlib.Core.List.{List, [], ◌∷◌}
use Prim.Native.Nat.{ℕ, zero, suc, ◌+◌, ◌%◌, ◌≤◌, ◌<◌}
use native.Mathlib.Omega.{arith}
use native.Mathlib.Decide.{ℕ_discrete}
use lib.Dec.{T, eqb, ltb}
use lib.ListN.{length, get_or, set, length-set}
use lib.Seq.{get_or-set_same, get_or-set_other, set_out, set-set, set-get_or}
use borrow.Author.Tests.{lt-ltb, le-ltb, ltb-true, ltb-false}
use Rattle.rules.specs.Numbers.{colour_no}
use Rattle.rules.specs.Tools.{tab}
use Rattle.rules.specs.Bit.{bit, mask_of}
use Rattle.rules.specs.Line.{Stones}
use Rattle.rules.specs.Point.{x_of, y_of, line_no, cell_no, line_size, point_at, stored, stored_at, key_at, key_dir, key_no}
use Rattle.rules.specs.Grid.{is_empty, Change, put_at, remove_at, play, play_map, empties, stone_at}
use Rattle.rules.specs.declared.Player.{Player}
use Rattle.rules.specs.declared.Player.TheVariants.{Black, White}
use Rattle.rules.proofs.Logic.{T_true, true-T, decide, and_intro}
use Rattle.rules.proofs.Lists.{length-tab, get_d-tab, tab-cong, is-tab}
use Rattle.rules.proofs.Bits.{mask-cong, bits_of, mask-none}
use Rattle.rules.proofs.Address.{point-lt, size-le}
use Rattle.rules.proofs.Address.{key_dir-lt, key_no-lt, key-stored, key_back}
use Rattle.rules.proofs.Rows.{stone-out, stone-here}
use Rattle.rules.proofs.Changes.{stone-off, stone-on, play-map, empties-put}
use Rattle.masks.specs.Masks.{placed}
use Rattle.lent.specs.Lists.{zeros}
use Rattle.lent.proofs.Laws.{length-zeros, zeros-at}
use Rattle.point.specs.Places.{has_place}
use Rattle.point.proofs.Stored.{has-point, place-key-lt, place-key-dir, place-key-no}
use Rattle.cells.specs.Cells.{Cells}
use Rattle.cells.proofs.Given.{cells-set, cells-zeros, colour-small, empty-value}
use Rattle.grid.specs.Lines.{entry_no, owner_of, mask_on, shows, entry_of, lines_of, cell_of, cells_of, Sound}
use Rattle.grid.specs.Lines.{write_line, write_in, write_on, play_lines}

-- ---- the line through a point, where it is stored

pub record Through (d p : ℕ) : Type 0 where
  pub point : p < 225
  pub key : key_at d p < 72
  pub dir : key_dir (key_at d p) ≡ d
  pub no : key_no (key_at d p) ≡ line_no d p

pub line_at : (d p : ℕ) → d < 4 → T (has_place d p) → Through d p
line_at d p hd t =
    let h = T_true t in
    record { point = has-point d p h; key = place-key-lt d p hd h; dir = place-key-dir d p hd h; no = place-key-no d p hd h }

-- a point on the line of a key is at its place
pub on-key : (k p : ℕ) → k < 72 → p < 225 → line_no (key_dir k) p ≡ key_no k → T (has_place (key_dir k) p) × (key_at (key_dir k) p ≡ k)
unfolding has_place stored_at key_at
on-key k p hk hp e = (
  and_intro (ltb p 225) (stored (key_dir k) (line_no (key_dir k) p)) (true-T (lt-ltb p 225 hp)) (rw e (key-stored k hk)),
  rw e (key_back k hk),
)

-- ---- an entry of the lines of cells

-- the bits of a line's mask are its stones
pub stone-bits : (r : Player) (cells : List ℕ) (d i : ℕ) → bit (mask_of 16 (stone_at r cells d i)) ≡ stone_at r cells d i
stone-bits r cells d i =
    bits_of 16 (stone_at r cells d i) (λ j h. stone-out r cells d i j (let s = size-le d i in omega arith))

entry-bits : (cells : List ℕ) (e : ℕ) → bit (entry_of cells e) ≡ stone_at (owner_of e) cells (key_dir (e % 72)) (key_no (e % 72))
unfolding entry_of
entry-bits cells e = stone-bits (owner_of e) cells (key_dir (e % 72)) (key_no (e % 72))

entry-miss : (cells : List ℕ) (p v e : ℕ) → (line_no (key_dir (e % 72)) p ≡ key_no (e % 72) → ⊥) → entry_of (set cells p v) e ≡ entry_of cells e
unfolding entry_of
entry-miss cells p v e miss =
    let hk : e % 72 < 72 = omega arith in
    mask-cong 16 (stone_at (owner_of e) (set cells p v) (key_dir (e % 72)) (key_no (e % 72)))
    (stone_at (owner_of e) cells (key_dir (e % 72)) (key_no (e % 72)))
    (λ j h. stone-off (owner_of e) cells (key_dir (e % 72)) (key_no (e % 72)) p v (key_dir-lt (e % 72) hk) (key_no-lt (e % 72) hk) miss j)

entry-hit : (cells : List ℕ) (p v e : ℕ) → length cells ≡ 225 → p < 225 → line_no (key_dir (e % 72)) p ≡ key_no (e % 72)
    → mask_of 16 (placed (bit (entry_of cells e)) (cell_no (key_dir (e % 72)) p) (eqb v (colour_no (owner_of e)))) ≡ entry_of (set cells p v) e
entry-hit cells p v e long hp on =
    let hk : e % 72 < 72 = omega arith in
    ap (λ (f : Stones). mask_of 16 (placed f (cell_no (key_dir (e % 72)) p) (eqb v (colour_no (owner_of e))))) (entry-bits cells e)
    ∙ unfold entry_of in
    mask-cong 16 _ _
    (λ j h. stone-on (owner_of e) cells (key_dir (e % 72)) (key_no (e % 72)) p v (key_dir-lt (e % 72) hk) (key_no-lt (e % 72) hk) long hp on j)

-- ---- a write on one line

module _ (l : List ℕ) (k j v : ℕ) (long : length l ≡ 144) (hk : k < 72) where
  length-write_line : length (write_line l k j v) ≡ 144
  unfolding write_line
  length-write_line = simp length-set long

  black : ℕ
  black = mask_of 16 (placed (bit (get_or l k 0)) j (eqb v 1))

  white : ℕ
  white = mask_of 16 (placed (bit (get_or l (72 + k) 0)) j (eqb v 2))

  line-hit : (e : ℕ) → e < 144 → e % 72 ≡ k
      → get_or (write_line l k j v) e 0 ≡ mask_of 16 (placed (bit (get_or l e 0)) j (eqb v (colour_no (owner_of e))))
  unfolding write_line black white
  line-hit e he q = go (decide (ltb e 72))
    where
      go : (ltb e 72 ≡ true) ⊎ (ltb e 72 ≡ false)
          → get_or (write_line l k j v) e 0 ≡ mask_of 16 (placed (bit (get_or l e 0)) j (eqb v (colour_no (owner_of e))))
      go (inl t) =
          let h = ltb-true e 72 t in
          let p : e ≡ k = omega arith in
          rw (t, p) (get_or-set_other (set l k black) (72 + k) k white 0 (omega arith) ∙ get_or-set_same l k black 0 (omega arith))
      go (inr t) =
          let h = ltb-false e 72 t in
          let p : e ≡ 72 + k = omega arith in
          let s = length-set l k black in
          rw (t, p) (get_or-set_same (set l k black) (72 + k) white 0 (omega arith))

  line-miss : (e : ℕ) → e < 144 → (e % 72 ≡ k → ⊥) → get_or (write_line l k j v) e 0 ≡ get_or l e 0
  unfolding write_line black white
  line-miss e he h =
      get_or-set_other (set l k black) (72 + k) e white 0 (λ p. h (omega arith)) ∙ get_or-set_other l k e black 0 (λ p. h (omega arith))

-- ---- a write, direction by direction: the lines of the directions below d are those of the new cells, the others those of the old

mixed : List ℕ → List ℕ → ℕ → ℕ → ℕ
mixed new old d e = cond (ltb (key_dir (e % 72)) d) (entry_of new e) (entry_of old e)

mixed-same : (new old : List ℕ) (d e : ℕ) → (key_dir (e % 72) ≡ d → entry_of new e ≡ entry_of old e)
    → mixed new old d e ≡ mixed new old (suc d) e
unfolding mixed
mixed-same new old d e h = go (decide (ltb (key_dir (e % 72)) d)) (decide (ltb (key_dir (e % 72)) (suc d)))
  where
    go : (ltb (key_dir (e % 72)) d ≡ true) ⊎ (ltb (key_dir (e % 72)) d ≡ false)
        → (ltb (key_dir (e % 72)) (suc d) ≡ true) ⊎ (ltb (key_dir (e % 72)) (suc d) ≡ false) → mixed new old d e ≡ mixed new old (suc d) e
    go (inl t) (inl u) = rw (t, u)
    go (inl t) (inr u) = absurd (omega (arith, ltb-true (key_dir (e % 72)) d t, ltb-false (key_dir (e % 72)) (suc d) u))
    go (inr t) (inl u) = rw (t, u) (sym (h (omega (arith, ltb-false (key_dir (e % 72)) d t, ltb-true (key_dir (e % 72)) (suc d) u))))
    go (inr t) (inr u) = rw (t, u)

module _ (cells : List ℕ) (p v : ℕ) (long : length cells ≡ 225) (hp : p < 225) where
  new : List ℕ
  new = set cells p v

  part : ℕ → List ℕ
  part d = tab 144 (mixed new cells d)

  step-at : (d e : ℕ) → d < 4 → e < 144 → get_or (write_in (part d) d p v) e 0 ≡ mixed new cells (suc d) e
  unfolding write_in new part mixed
  step-at d e hd he = go (decide (has_place d p))
    where
      old : get_or (part d) e 0 ≡ mixed new cells d e
      old = get_d-tab 144 (mixed new cells d) e he

      -- the line of this entry does not go through the point, or is none of this direction's
      miss : (key_dir (e % 72) ≡ d → line_no d p ≡ key_no (e % 72) → ⊥) → mixed new cells d e ≡ mixed new cells (suc d) e
      miss h = mixed-same new cells d e (λ q. entry-miss cells p v e (λ on. h q (ap (λ (x : ℕ). line_no x p) (sym q) ∙ on)))

      named : key_dir (e % 72) ≡ d → line_no d p ≡ key_no (e % 72) → T (has_place d p) × (key_at d p ≡ e % 72)
      named q on =
          subst (λ (x : ℕ). T (has_place x p) × (key_at x p ≡ e % 72)) q
          (on-key (e % 72) p (omega arith) hp (ap (λ (x : ℕ). line_no x p) q ∙ on))

      hit : Through d p → e % 72 ≡ key_at d p
          → mask_of 16 (placed (bit (mixed new cells d e)) (cell_no d p) (eqb v (colour_no (owner_of e)))) ≡ mixed new cells (suc d) e
      hit th q =
          let dir : key_dir (e % 72) ≡ d = ap key_dir q ∙ th.dir in
          let no : key_no (e % 72) ≡ line_no d p = ap key_no q ∙ th.no in
          rw (le-ltb (key_dir (e % 72)) d (omega arith), lt-ltb (key_dir (e % 72)) (suc d) (omega arith))
          (ap (λ (x : ℕ). mask_of 16 (placed (bit (entry_of cells e)) (cell_no x p) (eqb v (colour_no (owner_of e))))) (sym dir)
          ∙ entry-hit cells p v e long hp (ap (λ (x : ℕ). line_no x p) dir ∙ sym no))

      stored-at : T (has_place d p) → Dec (e % 72 ≡ key_at d p)
          → get_or (write_line (part d) (key_at d p) (cell_no d p) v) e 0 ≡ mixed new cells (suc d) e
      stored-at t (yes q) =
          let th = line_at d p hd t in
          line-hit (part d) (key_at d p) (cell_no d p) v (length-tab 144 (mixed new cells d)) th.key e he q
          ∙ ap (λ (x : ℕ). mask_of 16 (placed (bit x) (cell_no d p) (eqb v (colour_no (owner_of e))))) old ∙ hit th q
      stored-at t (no q) =
          let th = line_at d p hd t in
          line-miss (part d) (key_at d p) (cell_no d p) v (length-tab 144 (mixed new cells d)) th.key e he q
          ∙ old ∙ miss (λ dir on. q (sym (named dir on).1))

      go : (has_place d p ≡ true) ⊎ (has_place d p ≡ false) → get_or (write_in (part d) d p v) e 0 ≡ mixed new cells (suc d) e
      go (inl t) = rw t (stored-at (true-T t) (ℕ_discrete (e % 72) (key_at d p)))
      go (inr t) = rw t (old ∙ miss (λ dir on. subst T t (named dir on).0))

  length-write_in : (l : List ℕ) (d : ℕ) → d < 4 → length l ≡ 144 → length (write_in l d p v) ≡ 144
  unfolding write_in
  length-write_in l d hd e = go (decide (has_place d p))
    where
      go : (has_place d p ≡ true) ⊎ (has_place d p ≡ false) → length (write_in l d p v) ≡ 144
      go (inl t) = rw t (length-write_line l (key_at d p) (cell_no d p) v e (line_at d p hd (true-T t)).key)
      go (inr t) = rw t e

  step : (d : ℕ) → d < 4 → write_in (part d) d p v ≡ part (suc d)
  unfolding part
  step d hd =
      is-tab (write_in (part d) d p v) 144 (mixed new cells (suc d)) (length-write_in (part d) d hd (length-tab 144 (mixed new cells d)))
      (λ e he. step-at d e hd he)

  none_yet : lines_of cells ≡ part 0
  unfolding lines_of mixed part
  none_yet = tab-cong 144 (entry_of cells) (mixed new cells 0) (λ e he. rw (le-ltb (key_dir (e % 72)) 0 (omega arith)))

  all_done : part 4 ≡ lines_of (set cells p v)
  unfolding lines_of mixed part new
  all_done =
      tab-cong 144 (mixed new cells 4) (entry_of new) (λ e he. rw (lt-ltb (key_dir (e % 72)) 4 (key_dir-lt (e % 72) (omega arith))))

  write-inside : write_on (lines_of cells) p v ≡ lines_of (set cells p v)
  unfolding write_on
  write-inside = rw (none_yet, step 0 (omega arith), step 1 (omega arith), step 2 (omega arith), step 3 (omega arith), all_done)

-- a write on the lines of some cells gives the lines of the cells with that one changed
pub write-lines_of : (cells : List ℕ) (p v : ℕ) → length cells ≡ 225 → write_on (lines_of cells) p v ≡ lines_of (set cells p v)
unfolding write_on write_in has_place
write-lines_of cells p v long = go (decide (ltb p 225))
  where
    go : (ltb p 225 ≡ true) ⊎ (ltb p 225 ≡ false) → write_on (lines_of cells) p v ≡ lines_of (set cells p v)
    go (inl t) = write-inside cells p v long (ltb-true p 225 t)
    go (inr t) = let h = ltb-false p 225 t in rw t (ap lines_of (sym (set_out cells p v (omega arith))))

-- ---- stones of a line and the cells there

-- no stone stands where a cell is 0
no-stone : (r : Player) (cells : List ℕ) (d i j : ℕ) → get_or cells (point_at d i j) 0 ≡ 0 → stone_at r cells d i j ≡ false
unfolding stone_at
no-stone r cells d i j e = rw e (off r (ltb j (line_size d i)))
  where
    off : (r : Player) (b : Bool) → (b && eqb 0 (colour_no r)) ≡ false
    off Black true = refl
    off Black false = refl
    off White true = refl
    off White false = refl

-- a stone of a line is told by whether the cell there has its colour's number
stone-cong : (r : Player) (a b : List ℕ) (d i j : ℕ)
    → (j < line_size d i → eqb (get_or a (point_at d i j) 0) (colour_no r) ≡ eqb (get_or b (point_at d i j) 0) (colour_no r))
    → stone_at r a d i j ≡ stone_at r b d i j
unfolding stone_at
stone-cong r a b d i j h = go (decide (ltb j (line_size d i)))
  where
    go : (ltb j (line_size d i) ≡ true) ⊎ (ltb j (line_size d i) ≡ false) → stone_at r a d i j ≡ stone_at r b d i j
    go (inl t) = rw t (h (ltb-true j (line_size d i) t))
    go (inr t) = rw t

-- ---- reading the lines of some cells

pub length-lines_of : (cells : List ℕ) → length (lines_of cells) ≡ 144
unfolding lines_of
length-lines_of cells = length-tab 144 (entry_of cells)

-- a player's mask of the line of a key is its entry
pub mask-entry : (r : Player) (l : List ℕ) (k : ℕ) → k < 72 → mask_on r l k ≡ get_or l (entry_no r k) 0
unfolding mask_on
mask-entry r l k hk = rw (lt-ltb k 72 hk)

-- and on the lines of some cells that of the player's stones on that line, and shows them
pub mask-lines_of : (r : Player) (cells : List ℕ) (k : ℕ) → k < 72
    → mask_on r (lines_of cells) k ≡ mask_of 16 (stone_at r cells (key_dir k) (key_no k))
unfolding lines_of mask_on entry_of
mask-lines_of Black cells k hk =
    let m : k % 72 ≡ k = omega arith in
    rw (lt-ltb k 72 hk, get_d-tab 144 (entry_of cells) k (omega arith), lt-ltb k 72 hk, m)
mask-lines_of White cells k hk =
    let m : (72 + k) % 72 ≡ k = omega arith in
    rw (lt-ltb k 72 hk, get_d-tab 144 (entry_of cells) (72 + k) (omega arith), le-ltb (72 + k) 72 (omega arith), m)

pub shows-lines_of : (r : Player) (cells : List ℕ) (k : ℕ) → k < 72 → shows r (lines_of cells) k ≡ stone_at r cells (key_dir k) (key_no k)
shows-lines_of r cells k hk = ap bit (mask-lines_of r cells k hk) ∙ stone-bits r cells (key_dir k) (key_no k)

-- the lines look at the stones of the 225 points alone
pub lines_same : (a b : List ℕ) → ((r : Player) (p : ℕ) → p < 225 → eqb (get_or a p 0) (colour_no r) ≡ eqb (get_or b p 0) (colour_no r))
    → lines_of a ≡ lines_of b
unfolding lines_of entry_of
lines_same a b h =
    tab-cong 144 (entry_of a) (entry_of b)
    (λ e he. mask-cong 16 _ _ (λ j l. stone-cong (owner_of e) a b (key_dir (e % 72)) (key_no (e % 72)) j
    (λ q. h (owner_of e) (point_at (key_dir (e % 72)) (key_no (e % 72)) j)
    (point-lt (key_dir (e % 72)) (key_no (e % 72)) j (key_dir-lt (e % 72) (omega arith)) (key_no-lt (e % 72) (omega arith)) q))))

pub lines-cong : (a b : List ℕ) → ((p : ℕ) → p < 225 → get_or a p 0 ≡ get_or b p 0) → lines_of a ≡ lines_of b
lines-cong a b h = lines_same a b (λ r p hp. ap (λ (x : ℕ). eqb x (colour_no r)) (h p hp))

-- ---- the cells are read back

three : (x : ℕ) → x ≤ 2 → cond (eqb x 1) 1 (cond (eqb x 2) 2 0) ≡ x
three zero h = refl
three (suc zero) h = refl
three (suc (suc zero)) h = refl
three (suc (suc (suc x))) h = absurd (omega arith)

-- what the vertical line through p shows there
column-shows : (r : Player) (cells : List ℕ) (x : ℕ) → x < 15 → shows r (lines_of cells) x ≡ stone_at r cells 0 x
unfolding key_dir key_no
column-shows r cells x h = shows-lines_of r cells x (omega arith) ∙ ap₂ (stone_at r cells) (rw (lt-ltb x 15 h)) (rw (lt-ltb x 15 h))

pub column-lines_of : (r : Player) (cells : List ℕ) (p : ℕ) → p < 225
    → shows r (lines_of cells) (x_of p) (y_of p) ≡ eqb (get_or cells p 0) (colour_no r)
unfolding line_no cell_no
column-lines_of r cells p hp =
    ap (λ (f : Stones). f (y_of p)) (column-shows r cells (x_of p) (omega arith)) ∙ stone-here r cells 0 p (omega arith) hp

-- a cell of any lines, by what the vertical line shows
pub cell-shown : (l : List ℕ) (p : ℕ) → p < 225
    → cell_of l p ≡ cond (shows Black l (x_of p) (y_of p)) 1 (cond (shows White l (x_of p) (y_of p)) 2 0)
unfolding cell_of mask_on
cell-shown l p hp = rw (lt-ltb (x_of p) 72 (omega arith))

cell-lines_of : (cells : List ℕ) → Cells cells → (p : ℕ) → p < 225 → cell_of (lines_of cells) p ≡ get_or cells p 0
cell-lines_of cells ok p hp =
    cell-shown (lines_of cells) p hp
    ∙ rw (column-lines_of Black cells p hp, column-lines_of White cells p hp) (three (get_or cells p 0) (ok.small p hp))

pub cells-lines_of : (cells : List ℕ) → Cells cells → cells_of (lines_of cells) ≡ cells
unfolding cells_of
cells-lines_of cells ok = sym (is-tab cells 225 (cell_of (lines_of cells)) ok.long (λ p hp. sym (cell-lines_of cells ok p hp)))

small-cond : (a b : Bool) → cond a 1 (cond b 2 0) ≤ 2
small-cond true b = omega arith
small-cond false true = omega arith
small-cond false false = omega arith

pub length-cells_of : (l : List ℕ) → length (cells_of l) ≡ 225
unfolding cells_of
length-cells_of l = length-tab 225 (cell_of l)

pub cell-on : (l : List ℕ) (p : ℕ) → p < 225 → cell_of l p ≡ get_or (cells_of l) p 0
unfolding cells_of
cell-on l p hp = sym (get_d-tab 225 (cell_of l) p hp)

-- what is read is cells, whatever the lines
pub cells-cells_of : (l : List ℕ) → Cells (cells_of l)
unfolding cell_of
cells-cells_of l =
    record {
      long = length-cells_of l;
      small = λ p hp. rw (sym (cell-on l p hp)) (small-cond (bit (get_or l (x_of p) 0) (y_of p)) (bit (get_or l (72 + x_of p) 0) (y_of p)));
    }

-- a cell that is read is empty where it is 0
pub empty-cell : (l : List ℕ) (p : ℕ) → p < 225 → eqb (get_or (cells_of l) p 0) 0 ≡ is_empty (get_or (cells_of l) p 0)
empty-cell l p hp = empty-value (cells_of l) (cells-cells_of l) p hp

-- ---- sound lines

pub sound-lines : (l : List ℕ) → Sound l → l ≡ lines_of (cells_of l)
unfolding Sound
sound-lines l s = s

pub sound-lines_of : (cells : List ℕ) → Cells cells → Sound (lines_of cells)
unfolding Sound
sound-lines_of cells ok = ap lines_of (sym (cells-lines_of cells ok))

-- two sound boards with the same cells have the same lines
pub sound-unique : (l m : List ℕ) → Sound l → Sound m → cells_of l ≡ cells_of m → l ≡ m
sound-unique l m s t e = sound-lines l s ∙ ap lines_of e ∙ sym (sound-lines m t)

-- the masks of sound lines show the stones of the cells
pub shows-sound : (r : Player) (l : List ℕ) (k : ℕ) → Sound l → k < 72 → shows r l k ≡ stone_at r (cells_of l) (key_dir k) (key_no k)
shows-sound r l k s hk = ap (λ (x : List ℕ). shows r x k) (sound-lines l s) ∙ shows-lines_of r (cells_of l) k hk

pub mask-sound : (r : Player) (l : List ℕ) (k : ℕ) → Sound l → k < 72
    → mask_on r l k ≡ mask_of 16 (stone_at r (cells_of l) (key_dir k) (key_no k))
mask-sound r l k s hk = ap (λ (x : List ℕ). mask_on r x k) (sound-lines l s) ∙ mask-lines_of r (cells_of l) k hk

-- a write on sound lines sets the cell, and they stay sound
pub write-sound-lines : (l : List ℕ) (p v : ℕ) → Sound l → write_on l p v ≡ lines_of (set (cells_of l) p v)
write-sound-lines l p v s = ap (λ (x : List ℕ). write_on x p v) (sound-lines l s) ∙ write-lines_of (cells_of l) p v (length-cells_of l)

pub cells-write : (l : List ℕ) (p v : ℕ) → Sound l → v ≤ 2 → cells_of (write_on l p v) ≡ set (cells_of l) p v
cells-write l p v s h =
    ap cells_of (write-sound-lines l p v s) ∙ cells-lines_of (set (cells_of l) p v) (cells-set (cells_of l) p v (cells-cells_of l) h)

pub sound-write : (l : List ℕ) (p v : ℕ) → Sound l → v ≤ 2 → Sound (write_on l p v)
sound-write l p v s h =
    subst Sound (sym (write-sound-lines l p v s)) (sound-lines_of (set (cells_of l) p v) (cells-set (cells_of l) p v (cells-cells_of l) h))

-- ---- the empty board

pub lines-zeros : zeros 144 ≡ lines_of (zeros 225)
unfolding lines_of entry_of
lines-zeros =
    is-tab (zeros 144) 144 (entry_of (zeros 225)) (length-zeros 144)
    (λ e he. zeros-at 144 e ∙ sym (mask-none 16 _ (λ j h. none (owner_of e) (key_dir (e % 72)) (key_no (e % 72)) j)))
  where
    none : (r : Player) (d i j : ℕ) → stone_at r (zeros 225) d i j ≡ false
    none r d i j = no-stone r (zeros 225) d i j (zeros-at 225 (point_at d i j))

pub cells-lines-zeros : cells_of (zeros 144) ≡ zeros 225
cells-lines-zeros = ap cells_of lines-zeros ∙ cells-lines_of (zeros 225) cells-zeros

pub sound-zeros : Sound (zeros 144)
sound-zeros = subst Sound (sym lines-zeros) (sound-lines_of (zeros 225) cells-zeros)

-- ---- any sequence of puts and removes acts on the cells as the changes do, which is as on a plain map (rules, play-map)

pub play-sound : (changes : List Change) (l : List ℕ) → Sound l → Sound (play_lines changes l)
unfolding play_lines
play-sound [] l s = s
play-sound (put_at r p ∷ changes) l s = play-sound changes (write_on l p (colour_no r)) (sound-write l p (colour_no r) s (colour-small r))
play-sound (remove_at p ∷ changes) l s = play-sound changes (write_on l p 0) (sound-write l p 0 s (omega arith))

pub play-cells : (changes : List Change) (l : List ℕ) → Sound l → cells_of (play_lines changes l) ≡ play changes (cells_of l)
unfolding play_lines play
play-cells [] l s = refl
play-cells (put_at r p ∷ changes) l s =
    play-cells changes (write_on l p (colour_no r)) (sound-write l p (colour_no r) s (colour-small r))
    ∙ ap (play changes) (cells-write l p (colour_no r) s (colour-small r))
play-cells (remove_at p ∷ changes) l s =
    play-cells changes (write_on l p 0) (sound-write l p 0 s (omega arith)) ∙ ap (play changes) (cells-write l p 0 s (omega arith))

-- "Any sequence of both answers as a plain map from 225 points to empty, black or white."
pub play-as-map : (changes : List Change) (l : List ℕ) → Sound l → (q : ℕ) → q < 225
    → cell_of (play_lines changes l) q ≡ play_map changes (λ p. get_or (cells_of l) p 0) q
play-as-map changes l s q h =
    cell-on (play_lines changes l) q h ∙ ap (λ (x : List ℕ). get_or x q 0) (play-cells changes l s)
    ∙ play-map changes (cells_of l) (length-cells_of l) q h

-- the lines after a sequence are those of the cells after it
pub play-lines : (changes : List Change) (l : List ℕ) → Sound l → play_lines changes l ≡ lines_of (play changes (cells_of l))
play-lines changes l s = sound-lines (play_lines changes l) (play-sound changes l s) ∙ ap lines_of (play-cells changes l s)

-- ---- a trial stone: put at an empty point and taken off again, the lines are the same; while it stands there is one empty point fewer

pub trial : (r : Player) (l : List ℕ) (p : ℕ) → Sound l → get_or (cells_of l) p 0 ≡ 0 → write_on (write_on l p (colour_no r)) p 0 ≡ l
trial r l p s e =
    let t = sound-write l p (colour_no r) s (colour-small r) in
    sound-unique (write_on (write_on l p (colour_no r)) p 0) l (sound-write (write_on l p (colour_no r)) p 0 t (omega arith)) s
    (cells-write (write_on l p (colour_no r)) p 0 t (omega arith)
    ∙ ap (λ (x : List ℕ). set x p 0) (cells-write l p (colour_no r) s (colour-small r))
    ∙ set-set (cells_of l) p (colour_no r) 0 ∙ ap (set (cells_of l) p) (sym e) ∙ set-get_or (cells_of l) p 0)

pub trial-empties : (r : Player) (l : List ℕ) (p : ℕ) → Sound l → p < 225 → get_or (cells_of l) p 0 ≡ 0
    → empties (cells_of l) ≡ suc (empties (cells_of (write_on l p (colour_no r))))
trial-empties r l p s hp e =
    empties-put r (cells_of l) p (let n = length-cells_of l in omega arith) (subst (λ (x : ℕ). T (is_empty x)) (sym e) tt)
    ∙ ap (λ (x : List ℕ). suc (empties x)) (sym (cells-write l p (colour_no r) s (colour-small r)))
