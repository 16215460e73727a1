-- What a view does to points and to lines, each law a test that antt computes. Assumes nothing.
use mathlib.Core.Path.{◌≡◌, refl, sym, subst, ap, ◌∙◌}
use mathlib.Core.Bool.{Bool}
use mathlib.Core.List.{[], ◌∷◌}
use Prim.Native.Nat.{ℕ, zero, suc, ◌+◌, ◌*◌, ◌<◌}
use native.Mathlib.Omega.{arith}
use lib.Dec.{T, eqb, ltb, eqb→eq, ltb→lt}
use lib.ListN.{get_or}
use Rattle.rules.specs.Tools.{all_below}
use Rattle.rules.specs.Point.{line_no, cell_no, line_count, line_size, point_at}
use Rattle.rules.specs.Views.{turn, undo}
use Rattle.rules.proofs.Logic.{all-elim, all2, all3}
use Rattle.rules.proofs.Address.{point-here, line-here, point-lt, line-there, cell-there}

-- ---- points

pub undo-lt : (v : ℕ) → v < 8 → undo v < 8
unfolding all_below undo
undo-lt v hv = ltb→lt (undo v) 8 (all-elim 8 (λ v. ltb (undo v) 8) tt v hv)

pub undo-undo : (v : ℕ) → undo (undo v) ≡ v
unfolding undo
undo-undo zero = refl
undo-undo (suc zero) = refl
undo-undo (suc (suc zero)) = refl
undo-undo (suc (suc (suc zero))) = refl
undo-undo (suc (suc (suc (suc zero)))) = refl
undo-undo (suc (suc (suc (suc (suc zero))))) = refl
undo-undo (suc (suc (suc (suc (suc (suc zero)))))) = refl
undo-undo (suc (suc (suc (suc (suc (suc (suc zero))))))) = refl
undo-undo (suc (suc (suc (suc (suc (suc (suc (suc v)))))))) = refl

pub turn-lt : (v p : ℕ) → v < 8 → p < 225 → turn v p < 225
unfolding all_below turn
turn-lt v p hv hp = ltb→lt (turn v p) 225 (all2 8 225 (λ v p. ltb (turn v p) 225) tt v p hv hp)

pub turn-undo : (v p : ℕ) → v < 8 → p < 225 → turn (undo v) (turn v p) ≡ p
unfolding all_below turn undo
turn-undo v p hv hp = eqb→eq (turn (undo v) (turn v p)) p (all2 8 225 (λ v p. eqb (turn (undo v) (turn v p)) p) tt v p hv hp)

-- a point is where the view sent the point that the undoing view gives
pub turn-home : (v q : ℕ) → v < 8 → q < 225 → turn v (turn (undo v) q) ≡ q
turn-home v q hv hq = ap (λ (w : ℕ). turn w (turn (undo v) q)) (sym (undo-undo v)) ∙ turn-undo (undo v) q (undo-lt v hv) hq

-- ---- lines: where a view sends the lines of a direction, and which way their cells then run

-- the direction that the lines of direction d have in view v: view by view, direction by direction
unfoldable pub turn_dir : ℕ → ℕ → ℕ
turn_dir v d =
    get_or
    (0 ∷ 1 ∷ 2 ∷ 3 ∷ 1 ∷ 0 ∷ 3 ∷ 2 ∷ 0 ∷ 1 ∷ 2 ∷ 3 ∷ 1 ∷ 0 ∷ 3 ∷ 2 ∷ 0 ∷ 1 ∷ 3 ∷ 2 ∷ 0 ∷ 1 ∷ 3 ∷ 2 ∷ 1 ∷ 0 ∷ 2 ∷ 3 ∷ 1 ∷ 0 ∷ 2 ∷ 3 ∷ [])
    (v * 4 + d) 0

-- 1 where the cells of those lines then run the other way
unfoldable pub flips : ℕ → ℕ → ℕ
flips v d =
    get_or
    (0 ∷ 0 ∷ 0 ∷ 0 ∷ 0 ∷ 1 ∷ 0 ∷ 1 ∷ 1 ∷ 1 ∷ 1 ∷ 1 ∷ 1 ∷ 0 ∷ 1 ∷ 0 ∷ 0 ∷ 1 ∷ 1 ∷ 1 ∷ 1 ∷ 0 ∷ 0 ∷ 0 ∷ 0 ∷ 0 ∷ 0 ∷ 1 ∷ 1 ∷ 1 ∷ 1 ∷ 0 ∷ [])
    (v * 4 + d) 0

pub dir-lt : (v d : ℕ) → v < 8 → d < 4 → turn_dir v d < 4
unfolding all_below turn_dir
dir-lt v d hv hd = ltb→lt (turn_dir v d) 4 (all2 8 4 (λ v d. ltb (turn_dir v d) 4) tt v d hv hd)

pub dir-undo : (v d : ℕ) → v < 8 → d < 4 → turn_dir (undo v) (turn_dir v d) ≡ d
unfolding all_below turn_dir undo
dir-undo v d hv hd = eqb→eq (turn_dir (undo v) (turn_dir v d)) d (all2 8 4 (λ v d. eqb (turn_dir (undo v) (turn_dir v d)) d) tt v d hv hd)

-- the line to which a view sends line i
unfoldable pub turn_line : ℕ → ℕ → ℕ → ℕ
turn_line v d i = line_no (turn_dir v d) (turn v (point_at d i 0))

-- cells h and h' of a line of size n, the same or across
unfoldable pub matched : ℕ → ℕ → ℕ → ℕ → Bool
matched zero n h h' = eqb h h'
matched (suc b) n h h' = eqb (h + h' + 1) n

pub turn-line : (v d p : ℕ) → v < 8 → d < 4 → p < 225 → line_no (turn_dir v d) (turn v p) ≡ turn_line v d (line_no d p)
unfolding all_below turn_line point_at line_no turn turn_dir
turn-line v d p hv hd hp =
    eqb→eq (line_no (turn_dir v d) (turn v p)) (turn_line v d (line_no d p))
    (all3 8 4 225 (λ v d p. eqb (line_no (turn_dir v d) (turn v p)) (turn_line v d (line_no d p))) tt v d p hv hd hp)

pub turn-size : (v d p : ℕ) → v < 8 → d < 4 → p < 225 → line_size (turn_dir v d) (line_no (turn_dir v d) (turn v p)) ≡ line_size d (line_no d p)
unfolding all_below line_size line_no turn turn_dir
turn-size v d p hv hd hp =
    eqb→eq (line_size (turn_dir v d) (line_no (turn_dir v d) (turn v p))) (line_size d (line_no d p))
    (all3 8 4 225 (λ v d p. eqb (line_size (turn_dir v d) (line_no (turn_dir v d) (turn v p))) (line_size d (line_no d p))) tt v d p hv hd hp)

pub turn-cell : (v d p : ℕ) → v < 8 → d < 4 → p < 225
    → T (matched (flips v d) (line_size d (line_no d p)) (cell_no d p) (cell_no (turn_dir v d) (turn v p)))
unfolding all_below matched line_size line_no cell_no turn turn_dir flips
turn-cell v d p hv hd hp =
    all3 8 4 225 (λ v d p. matched (flips v d) (line_size d (line_no d p)) (cell_no d p) (cell_no (turn_dir v d) (turn v p))) tt v d p hv hd hp

matched-one : (b n j h k : ℕ) → T (matched b n j h) → T (matched b n j k) → h ≡ k
unfolding matched
matched-one zero n j h k s t = sym (eqb→eq j h s) ∙ eqb→eq j k t
matched-one (suc b) n j h k s t =
    let a : j + h + 1 ≡ n = eqb→eq (j + h + 1) n s in
    let b : j + k + 1 ≡ n = eqb→eq (j + k + 1) n t in
    omega arith

-- cell h of the turned line, matched with cell j, is the turned point
module _ (v d p : ℕ) (hv : v < 8) (hd : d < 4) (hp : p < 225) where
  pub turn-point : (j h : ℕ) → j < line_size d (line_no d p) → T (matched (flips v d) (line_size d (line_no d p)) j h)
      → point_at (turn_dir v d) (line_no (turn_dir v d) (turn v p)) h ≡ turn v (point_at d (line_no d p) j)
  turn-point j h hj m =
      let i = line_no d p in
      let hi : i < line_count d = line-here d p hd hp in
      let q = point_at d i j in
      let hq : q < 225 = point-lt d i j hd hi hj in
      let li : line_no d q ≡ i = line-there d i j hd hi hj in
      let lj : cell_no d q ≡ j = cell-there d i j hd hi hj in
      let e1 : line_no (turn_dir v d) (turn v q) ≡ line_no (turn_dir v d) (turn v p) =
      turn-line v d q hv hd hq ∙ ap (turn_line v d) li ∙ sym (turn-line v d p hv hd hp) in
      let m2 : T (matched (flips v d) (line_size d i) j (cell_no (turn_dir v d) (turn v q))) =
      subst (λ (x : ℕ). T (matched (flips v d) (line_size d i) x (cell_no (turn_dir v d) (turn v q)))) lj
      (subst (λ (x : ℕ). T (matched (flips v d) (line_size d x) (cell_no d q) (cell_no (turn_dir v d) (turn v q)))) li
      (turn-cell v d q hv hd hq)) in
      let e2 : cell_no (turn_dir v d) (turn v q) ≡ h = matched-one (flips v d) (line_size d i) j (cell_no (turn_dir v d) (turn v q)) h m2 m in
      ap (λ (x : ℕ). point_at (turn_dir v d) x h) (sym e1)
      ∙ ap (λ (x : ℕ). point_at (turn_dir v d) (line_no (turn_dir v d) (turn v q)) x) (sym e2)
      ∙ point-here (turn_dir v d) (turn v q) (dir-lt v d hv hd) (turn-lt v q hv hq)
