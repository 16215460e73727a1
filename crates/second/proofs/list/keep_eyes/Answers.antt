-- `second::list::keep_eyes` meets its contract: after i turns the cells below i are looked at. Assumes nothing.
use mathlib.Core.Path.{◌≡◌, ap, sym, ◌∙◌}
use mathlib.Core.List.{[], ◌∷◌, ◌++◌, append-nil}
use Prim.Native.Nat.{ℕ}
use native.Mathlib.Omega.{arith}
use lib.ListN.{length, length-append}
use Rattle.rules.specs.Tools.{gather}
use Rattle.rules.specs.Point.{line_no, line_size}
use Rattle.rules.proofs.Address.{size-le}
use Rattle.cells.proofs.Kept.{behind_kept, behind_passed}
use Rattle.second.proofs.Gathered.{eye_item, eyes-so-far}
use Rattle.second.proofs.list.keep_eyes.Goals as goal
use Rattle.second.proofs.list.keep_eyes.Goals.{then-is_four_eye, else-is_four_eye}

pub loop-i-init : goal.loop-i-init
unfolding gather
loop-i-init c = sym (append-nil c.args.list.now)

pub loop-i-preserved : goal.loop-i-preserved
loop-i-preserved c =
    let a = c.args in
    let i = c.loop-i.i in
    let f = eye_item a.player a.board.now a.code a.d in
    let long = ap length c.loop-i.invariant ∙ length-append a.list.now (gather i f) in
    let fit = eyes-so-far a.player a.board.now a.code a.d i in
    let z = size-le a.d (line_no a.d a.code) in
    elim c.if-is_four_eye.branch [
      | then-is_four_eye w ↦ w.list-is ∙ behind_kept _ a.list.now f i c.loop-i.invariant (w.get.result ∷ []) w.keep.ensures
          (omega (arith, long, fit, z, c.loop-i-test.true, c.size_along-i-end.ensures, c.requires))
          (rw (w.get.ensures.value, w.point_along.ensures, sym c.is_four_eye.ensures ∙ w.if-is_four_eye.true))
      | else-is_four_eye w ↦ behind_passed 0 a.list.now f i c.loop-i.invariant w.list-is
          (rw (sym c.is_four_eye.ensures ∙ w.if-is_four_eye.false))
    ]

pub returns : goal.returns
returns c =
    let a = c.args in
    let e : c.loop-i.i ≡ line_size a.d (line_no a.d a.code) = omega (arith, c.size_along-i-end.ensures) in
    c.loop-i.invariant
    ∙ ap (λ (n : ℕ). a.list.now ++ gather n (eye_item a.player a.board.now a.code a.d)) e
