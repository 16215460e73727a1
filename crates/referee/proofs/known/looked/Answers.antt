-- `referee::known::looked` meets its contract. Assumes nothing.
use mathlib.Core.Path.{sym, ◌∙◌}
use mathlib.Core.Bool.{true, false}
use Prim.Native.Nat.{◌/◌, ◌%◌, ◌<◌}
use native.Mathlib.Omega.{arith}
use Rattle.grid.specs.Lines.{cells_of}
use Rattle.referee.proofs.Bounded.{made, can-make}
use Rattle.referee.proofs.EyeFound.{eye-small}
use Rattle.referee.proofs.Told.{known-settled, shut-seen, clear-seen}
use Rattle.referee.proofs.known.looked.Goals as goal

pub unwrap-eye-requires : goal.unwrap-eye-requires
unwrap-eye-requires c =
    let t = c.requires in
    let three = c.args.three in
    let hp : c.args.code < 225 = omega arith in
    let hd : three / 16 < 4 = omega arith in
    can-make 225 _ c.new.ensures
    (eye-small c.args.lines.now c.args.code (three / 16) (three % 16) t.0 hp hd t.1 (c.eye_on.ensures.sound t.0 t.1))

pub returns-then-is_shut : goal.returns-then-is_shut
returns-then-is_shut c =
    let t = c.requires in
    let three = c.args.three in
    let hp : c.args.code < 225 = omega arith in
    let h : three < 64 = omega arith in
    let hd : three / 16 < 4 = omega arith in
    let at = made 225 _ c.new.ensures c.unwrap-eye.ensures ∙ c.eye_on.ensures.sound t.0 t.1 in
    known-settled (cells_of c.args.lines.now) c.args.code t.2 three h t.1 false
    (shut-seen c.args.lines.now c.args.code (three / 16) (three % 16) t.0 hp hd t.1
    at (c.rows_on-rows.ensures.sound t.0) c.is_shut.ensures c.if-is_shut.true)
    c.settled.ensures.0 (rw c.get.ensures.value at c.settled.ensures.1)

pub returns : goal.returns
returns c =
    let t = c.requires in
    let three = c.args.three in
    let hp : c.args.code < 225 = omega arith in
    let h : three < 64 = omega arith in
    let hd : three / 16 < 4 = omega arith in
    let at = made 225 _ c.new.ensures c.unwrap-eye.ensures ∙ c.eye_on.ensures.sound t.0 t.1 in
    known-settled (cells_of c.args.lines.now) c.args.code t.2 three h t.1 true
    (clear-seen c.args.lines.now c.args.code (three / 16) (three % 16) t.0 hp hd t.1
    at (c.rows_on-rows.ensures.sound t.0) c.is_shut.ensures c.if-is_shut.false
    (sym c.more_than_one.ensures ∙ c.if-more_than_one.false))
    (rw c.get-2.ensures.value at c.settled-2.ensures.0) c.settled-2.ensures.1
