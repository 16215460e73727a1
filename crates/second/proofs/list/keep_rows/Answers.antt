-- `second::list::keep_rows` meets its contract: after j turns the starts below j are looked at. Assumes nothing.
use mathlib.Core.Path.{◌≡◌, ap, sym, ◌∙◌}
use mathlib.Core.List.{◌++◌, append-nil}
use Prim.Native.Nat.{ℕ}
use native.Mathlib.Omega.{arith}
use lib.ListN.{length, length-append}
use Rattle.rules.specs.Tools.{gather}
use Rattle.rules.specs.Point.{line_no, line_size}
use Rattle.rules.specs.Grid.{line_rows, row_bytes}
use Rattle.rules.proofs.Address.{size-le}
use Rattle.cells.proofs.Kept.{behind_kept, behind_passed}
use Rattle.second.specs.Lists.{rows_asked}
use Rattle.second.proofs.Bounded.{made, made-is}
use Rattle.second.proofs.Gathered.{row_item, rows-so-far, four_bytes}
use Rattle.second.proofs.list.keep_rows.Goals as goal
use Rattle.second.proofs.list.keep_rows.Goals.{then-is_asked, else-is_asked}

pub loop-j-init : goal.loop-j-init
unfolding gather
loop-j-init g c = sym (append-nil c.args.list.now)

pub unwrap-j-requires : goal.unwrap-j-requires
unwrap-j-requires g c =
    let z = size-le c.args.d (line_no c.args.d c.args.code) in
    made 16 _ c.new.ensures (omega (arith, c.loop-j-test.true, c.size_along-j-end.ensures))

pub loop-j-preserved : goal.loop-j-preserved
loop-j-preserved g c =
    let a = c.args in
    let j = c.loop-j.j in
    let f = row_item a.player a.kind a.board.now a.code a.d a.only_through in
    let long = ap length c.loop-j.invariant ∙ length-append a.list.now (gather j f) in
    let fit = rows-so-far a.player a.kind a.board.now a.code a.d a.only_through j in
    let z = size-le a.d (line_no a.d a.code) in
    let is = made-is 16 _ c.new.ensures c.unwrap-j.ensures in
    let asked : c.is_asked.result ≡ rows_asked a.player a.kind a.board.now a.code a.d a.only_through j = rw is at c.is_asked.ensures in
    elim c.if-is_asked.branch [
      | then-is_asked w ↦ (
          let bytes : w.row_bytes.result ≡ row_bytes a.player a.kind a.board.now a.d (line_no a.d a.code) j = rw is at w.row_bytes.ensures in
          let four = ap length bytes ∙ four_bytes a.player a.kind a.board.now a.d (line_no a.d a.code) j in
          w.list-is ∙ behind_kept _ a.list.now f j c.loop-j.invariant w.row_bytes.result w.keep.ensures
          (omega (arith, long, fit, four, z, c.loop-j-test.true, c.size_along-j-end.ensures, c.requires))
          (bytes ∙ rw (sym asked ∙ w.if-is_asked.true)))
      | else-is_asked w ↦ behind_passed 0 a.list.now f j c.loop-j.invariant w.list-is (rw (sym asked ∙ w.if-is_asked.false))
    ]

pub returns : goal.returns
unfolding line_rows
returns g c =
    let a = c.args in
    let e : c.loop-j.j ≡ line_size a.d (line_no a.d a.code) = omega (arith, c.size_along-j-end.ensures) in
    c.loop-j.invariant
    ∙ ap (λ (n : ℕ). a.list.now ++ gather n (row_item a.player a.kind a.board.now a.code a.d a.only_through)) e
