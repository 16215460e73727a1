-- What no refusal says of a point, a line or an index. Assumes nothing.
use mathlib.Core.Path.{◌≡◌}
use Prim.Native.Nat.{ℕ, zero, suc, ◌+◌, ◌≤◌, ◌<◌}
use native.Mathlib.Omega.{arith}
use lib.Dec.{leb, ltb, leb→le, ltb→lt}
use Rattle.rules.specs.Refusals.{unless, code_refusal, direction_refusal, view_refusal, line_no_refusal}
use Rattle.rules.specs.Point.{line_count, line_size}
use Rattle.rules.proofs.Refusals.{first-none, passed}
use Rattle.point.specs.declared.index.Point.{Point}
use Rattle.point.specs.declared.index.Index.{Index}
use Rattle.point.specs.Points.{point_refusal, index_refusal, offset_refusal}

pub code_in : (p : ℕ) → code_refusal p ≡ 0 → p < 225
unfolding code_refusal
code_in p e = ltb→lt p 225 (passed (ltb p 225) 7 e)

pub direction-in : (d : ℕ) → direction_refusal d ≡ 0 → d < 4
unfolding direction_refusal
direction-in d e = ltb→lt d 4 (passed (ltb d 4) 11 e)

pub view_in : (v : ℕ) → view_refusal v ≡ 0 → v < 8
unfolding view_refusal
view_in v e = ltb→lt v 8 (passed (ltb v 8) 11 e)

pub point-in : (p : Point) → point_refusal p ≡ 0 → (p.x ≤ 14) × (p.y ≤ 14)
unfolding point_refusal
point-in p e =
    let (a, b) = first-none (unless (leb p.x 14) 8) (unless (leb p.y 14) 8) e in
    (leb→le p.x 14 (passed (leb p.x 14) 7 a), leb→le p.y 14 (passed (leb p.y 14) 7 b))

pub line-in : (d i : ℕ) → line_no_refusal d i ≡ 0 → (d < 4) × (i < line_count d)
unfolding line_no_refusal
line-in d i e =
    let (a, b) = first-none (direction_refusal d) (unless (ltb i (line_count d)) 10) e in
    (direction-in d a, ltb→lt i (line_count d) (passed (ltb i (line_count d)) 9 b))

pub index_in : (n : Index) → index_refusal n ≡ 0 → (n.d < 4) × (n.i < line_count n.d) × (n.j < line_size n.d n.i)
unfolding index_refusal
index_in n e =
    let (a, b) = first-none (line_no_refusal n.d n.i) (unless (ltb n.j (line_size n.d n.i)) 10) e in (
      (line-in n.d n.i a).0,
      (line-in n.d n.i a).1,
      ltb→lt n.j (line_size n.d n.i) (passed (ltb n.j (line_size n.d n.i)) 9 b),
    )

pub offset-in : (n : Index) (step : ℕ) → offset_refusal n step ≡ 0 → n.j + step < line_size n.d n.i
unfolding offset_refusal
offset-in n step e =
    let (a, b) = first-none (index_refusal n) (unless (ltb (n.j + step) (line_size n.d n.i)) 10) e in
    ltb→lt (n.j + step) (line_size n.d n.i) (passed (ltb (n.j + step) (line_size n.d n.i)) 9 b)

-- ---- how many lines there are, and how long they are

pub lines-le : (d : ℕ) → line_count d ≤ 29
unfolding line_count
lines-le zero = omega arith
lines-le (suc zero) = omega arith
lines-le (suc (suc zero)) = omega arith
lines-le (suc (suc (suc d))) = omega arith
