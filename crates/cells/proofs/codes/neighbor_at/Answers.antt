-- `cells::codes::neighbor_at` meets its contract: before the line, past it, or on it. Assumes nothing.
use mathlib.Core.Path.{sym, ap, ap₂, ◌∙◌}
use mathlib.Core.Bool.{Bool, not, ◌||◌}
use mathlib.Core.List.{[], ◌∷◌}
use Prim.Native.Nat.{ℕ, ◌+◌, ◌-◌}
use lib.ListN.{get_or}
use Rattle.rules.specs.Tools.{only}
use Rattle.rules.specs.Grid.{is_empty}
use native.Mathlib.Omega.{arith}
use Rattle.rules.specs.Point.{line_no, cell_no, line_size, point_at}
use Rattle.rules.proofs.Address.{line-here, cell-here, point-lt}
use Rattle.rules.proofs.Address.{size-le}
use Rattle.cells.proofs.Kept.{near_before, near-past, near-there}
use Rattle.cells.proofs.codes.neighbor_at.Goals as goal
use Rattle.cells.proofs.codes.neighbor_at.Goals.{then-at-distance-via-then-at-distance, then-at-distance-via-else-at-distance+then-line_size-at}

pub overflow_add-at : goal.overflow_add-at
overflow_add-at c =
    let a = c.args in
    let h = c.requires in
    let on = cell-here a.d a.code h.2 h.0 in
    record { fits = omega (arith, c.cell_no.ensures, on, size-le a.d (line_no a.d a.code), h.3) }

pub returns-then-at-distance : goal.returns-then-at-distance
returns-then-at-distance c =
    let a = c.args in
    let n = c.cell_no.ensures in
    elim c.then-at-distance.branch [
      | then-at-distance-via-then-at-distance w ↦
          near_before a.cells.now a.code a.distance a.only_empty a.d a.s (omega (arith, n, w.if-at-distance.true))
      | then-at-distance-via-else-at-distance+then-line_size-at w ↦
          let size = w.line_size.ensures ∙ ap (line_size a.d) c.line_no-i.ensures in
          near-past a.cells.now a.code a.distance a.only_empty a.d a.s
          (omega (arith, n, w.if-at-distance.false)) (omega (arith, n, size, w.if-line_size-at.true))
    ]

pub overflow_cast-there : goal.overflow_cast-there
overflow_cast-there c =
    let n = c.cell_no.ensures in
    let no = c.line_no-i.ensures in
    let a = c.args in
    let h = c.requires in
    let size = c.line_size.ensures ∙ ap (line_size a.d) no in
    let e = c.point_at-there.ensures ∙ ap₂ (λ (i k : ℕ). point_at a.d i (k + a.s - a.distance)) no n in
    let on = point-lt a.d (line_no a.d a.code) (cell_no a.d a.code + a.s - a.distance) h.2
    (line-here a.d a.code h.2 h.0) (omega (arith, n, size, c.if-line_size-at.false)) in
    record { fits = omega (arith, e, on) }

pub returns-then-may_name : goal.returns-then-may_name
returns-then-may_name c =
    let n = c.cell_no.ensures in
    let no = c.line_no-i.ensures in
    let a = c.args in
    let size = c.line_size.ensures ∙ ap (line_size a.d) no in
    let at = point_at a.d (line_no a.d a.code) (cell_no a.d a.code + a.s - a.distance) in
    let e = c.point_at-there.ensures ∙ ap₂ (λ (i k : ℕ). point_at a.d i (k + a.s - a.distance)) no n in
    let named = ap (λ (p : ℕ). not a.only_empty || is_empty (get_or a.cells.now p 0)) (sym e) ∙ sym c.may_name.ensures ∙ c.if-may_name.true in
    ap (λ (p : ℕ). p ∷ []) e ∙ ap (λ (b : Bool). only b (at ∷ [])) (sym named)
    ∙ near-there a.cells.now a.code a.distance a.only_empty a.d a.s
    (omega (arith, n, c.if-at-distance.false)) (omega (arith, n, size, c.if-line_size-at.false))

pub returns-else-may_name : goal.returns-else-may_name
returns-else-may_name c =
    let n = c.cell_no.ensures in
    let no = c.line_no-i.ensures in
    let a = c.args in
    let size = c.line_size.ensures ∙ ap (line_size a.d) no in
    let at = point_at a.d (line_no a.d a.code) (cell_no a.d a.code + a.s - a.distance) in
    let e = c.point_at-there.ensures ∙ ap₂ (λ (i k : ℕ). point_at a.d i (k + a.s - a.distance)) no n in
    let named = ap (λ (p : ℕ). not a.only_empty || is_empty (get_or a.cells.now p 0)) (sym e) ∙ sym c.may_name.ensures ∙ c.if-may_name.false in
    ap (λ (b : Bool). only b (at ∷ [])) (sym named)
    ∙ near-there a.cells.now a.code a.distance a.only_empty a.d a.s
    (omega (arith, n, c.if-at-distance.false)) (omega (arith, n, size, c.if-line_size-at.false))
