-- `Sound`, which is one equation, says what section 1 says of the lines one by one. Assumes nothing.
use mathlib.Core.Path.{◌≡◌, refl, ap, ap₂, sym, ◌∙◌}
use mathlib.Core.Bool.{Bool, true, false, ◌&&◌, cond}
use mathlib.Core.Logic.{◌⊎◌, inl, inr}
use mathlib.Core.List.{List}
use Prim.Native.Nat.{ℕ, ◌+◌, ◌%◌, ◌<◌}
use native.Mathlib.Omega.{arith}
use lib.Dec.{T, eqb, ltb}
use lib.ListN.{length, get_or}
use borrow.Author.Tests.{lt-ltb, ltb-true, ltb-false, eqb-true}
use Rattle.rules.specs.Numbers.{colour_no}
use Rattle.rules.specs.Bit.{bit}
use Rattle.rules.specs.Line.{Stones}
use Rattle.rules.specs.Point.{x_of, y_of, line_no, cell_no, line_size, point_at, stored, key_of, stored_at, key_at, key_dir, key_no, key_size}
use Rattle.rules.specs.Grid.{stone_at}
use Rattle.rules.specs.declared.Player.{Player}
use Rattle.rules.specs.declared.Player.TheVariants.{Black, White}
use Rattle.rules.proofs.Logic.{true-T, decide, and_intro}
use Rattle.rules.proofs.Lists.{get_d-tab, is-tab}
use Rattle.rules.proofs.Bits.{mask_lt, mask-ext}
use Rattle.rules.proofs.Address.{point-lt, line-there, cell-there, key_dir-lt, key_no-lt}
use Rattle.rules.proofs.Rows.{stone-in, stone-out, stone-here}
use Rattle.point.specs.Places.{has_place}
use Rattle.grid.specs.Lines.{owner_of, mask_on, shows, entry_of, lines_of, cells_of, Sound}
use Rattle.grid.specs.Agreed.{Agreed}
use Rattle.grid.proofs.Lines.{line_at, on-key, length-lines_of, sound-lines, shows-sound, cell-shown, cell-on}

-- ---- sound lines agree

module _ (l : List ℕ) (s : Sound l) where
  -- the line through a point shows what the cell there is
  pub shown-at : (r : Player) (d p : ℕ) → d < 4 → T (has_place d p)
      → shows r l (key_at d p) (cell_no d p) ≡ eqb (get_or (cells_of l) p 0) (colour_no r)
  shown-at r d p hd t =
      let th = line_at d p hd t in
      ap (λ (f : Stones). f (cell_no d p))
      (shows-sound r l (key_at d p) s th.key ∙ ap₂ (stone_at r (cells_of l)) th.dir th.no)
      ∙ stone-here r (cells_of l) d p hd th.point

  entry-of : (e : ℕ) → e < 144 → get_or l e 0 ≡ entry_of (cells_of l) e
  unfolding lines_of
  entry-of e he = ap (λ (x : List ℕ). get_or x e 0) (sound-lines l s) ∙ get_d-tab 144 (entry_of (cells_of l)) e he

  not-both : (k j : ℕ) → k < 72 → (shows Black l k j && shows White l k j) ≡ false
  unfolding stone_at
  not-both k j hk =
      ap₂ (λ (f g : Stones). f j && g j) (shows-sound Black l k s hk) (shows-sound White l k s hk)
      ∙ no (ltb j (line_size (key_dir k) (key_no k))) (get_or (cells_of l) (point_at (key_dir k) (key_no k) j) 0)
    where
      no : (b : Bool) (v : ℕ) → (b && eqb v 1 && (b && eqb v 2)) ≡ false
      no false v = refl
      no true v = one (decide (eqb v 1))
        where
          one : (eqb v 1 ≡ true) ⊎ (eqb v 1 ≡ false) → (eqb v 1 && eqb v 2) ≡ false
          one (inl t) = rw (eqb-true v 1 t)
          one (inr t) = rw t

  pub sound-agreed : Agreed l
  unfolding entry_of key_size
  sound-agreed =
      record {
        long = ap length (sound-lines l s) ∙ length-lines_of (cells_of l);
        small = λ e he. rw (entry-of e he) (mask_lt 16 (stone_at (owner_of e) (cells_of l) (key_dir (e % 72)) (key_no (e % 72))));
        outside = λ r k j hk h. ap (λ (f : Stones). f j) (shows-sound r l k s hk) ∙ stone-out r (cells_of l) (key_dir k) (key_no k) j h;
        one = not-both;
        agree = λ r c d p hc hd a b. shown-at r c p hc a ∙ sym (shown-at r d p hd b);
      }

-- ---- lines that agree are sound

-- a cell's value tells each colour
told-black : (b w : Bool) → eqb (cond b 1 (cond w 2 0)) 1 ≡ b
told-black true w = refl
told-black false true = refl
told-black false false = refl

told-white : (b w : Bool) → (b && w) ≡ false → eqb (cond b 1 (cond w 2 0)) 2 ≡ w
told-white true w e = sym e
told-white false true e = refl
told-white false false e = refl

module _ (l : List ℕ) (a : Agreed l) where
  -- an entry is its owner's mask of its key
  own-entry : (e : ℕ) → e < 144 → get_or l e 0 ≡ mask_on (owner_of e) l (e % 72)
  unfolding mask_on
  own-entry e he = go (decide (ltb e 72))
    where
      go : (ltb e 72 ≡ true) ⊎ (ltb e 72 ≡ false) → get_or l e 0 ≡ mask_on (owner_of e) l (e % 72)
      go (inl t) =
          let h = ltb-true e 72 t in
          let m : e ≡ e % 72 = omega arith in
          rw (t, lt-ltb (e % 72) 72 (omega arith)) (ap (λ (x : ℕ). get_or l x 0) m)
      go (inr t) =
          let h = ltb-false e 72 t in
          let m : e ≡ 72 + e % 72 = omega arith in
          rw (t, lt-ltb (e % 72) 72 (omega arith)) (ap (λ (x : ℕ). get_or l x 0) m)

  -- the vertical line through a point tells its cell
  column : (r : Player) (p : ℕ) → p < 225 → shows r l (key_at 0 p) (cell_no 0 p) ≡ eqb (get_or (cells_of l) p 0) (colour_no r)
  unfolding key_at key_of line_no cell_no
  column Black p hp =
      sym (ap (λ (x : ℕ). eqb x 1) (sym (cell-on l p hp) ∙ cell-shown l p hp)
      ∙ told-black (shows Black l (x_of p) (y_of p)) (shows White l (x_of p) (y_of p)))
  column White p hp =
      sym (ap (λ (x : ℕ). eqb x 2) (sym (cell-on l p hp) ∙ cell-shown l p hp)
      ∙ told-white (shows Black l (x_of p) (y_of p)) (shows White l (x_of p) (y_of p)) (a.one (x_of p) (y_of p) (omega arith)))

  upright : (p : ℕ) → p < 225 → T (has_place 0 p)
  unfolding has_place stored_at stored
  upright p hp = and_intro (ltb p 225) true (true-T (lt-ltb p 225 hp)) tt

  shown-cell : (r : Player) (k j : ℕ) → k < 72 → shows r l k j ≡ stone_at r (cells_of l) (key_dir k) (key_no k) j
  unfolding key_size
  shown-cell r k j hk = go (decide (ltb j (line_size d i)))
    where
      d : ℕ
      d = key_dir k

      i : ℕ
      i = key_no k

      inside : j < line_size d i → shows r l k j ≡ stone_at r (cells_of l) d i j
      inside h =
          let p = point_at d i j in
          let hd = key_dir-lt k hk in
          let hi = key_no-lt k hk in
          let hp : p < 225 = point-lt d i j hd hi h in
          let o = on-key k p hk hp (line-there d i j hd hi h) in
          ap₂ (λ (x y : ℕ). shows r l x y) (sym o.1) (sym (cell-there d i j hd hi h))
          ∙ a.agree r d 0 p hd (omega arith) o.0 (upright p hp) ∙ column r p hp ∙ sym (stone-in r (cells_of l) d i j h)

      go : (ltb j (line_size d i) ≡ true) ⊎ (ltb j (line_size d i) ≡ false) → shows r l k j ≡ stone_at r (cells_of l) d i j
      go (inl t) = inside (ltb-true j (line_size d i) t)
      go (inr t) = let h = ltb-false j (line_size d i) t in a.outside r k j hk h ∙ sym (stone-out r (cells_of l) d i j h)

  pub agreed-sound : Sound l
  unfolding Sound lines_of entry_of
  agreed-sound =
      is-tab l 144 (entry_of (cells_of l)) a.long
      (λ e he. mask-ext 16 (get_or l e 0) (stone_at (owner_of e) (cells_of l) (key_dir (e % 72)) (key_no (e % 72))) (a.small e he)
      (λ j h. ap (λ (m : ℕ). bit m j) (own-entry e he) ∙ shown-cell (owner_of e) (e % 72) j (omega arith)))
