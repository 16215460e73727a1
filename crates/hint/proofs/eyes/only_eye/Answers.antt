-- `hint::eyes::only_eye` meets its contract: the Swords passed have one eye, the first's. Assumes nothing.
use mathlib.Core.Path.{sym, ◌∙◌}
use Prim.Native.Nat.{◌<◌}
use native.Mathlib.Omega.{arith}
use Rattle.grid.specs.Lines.{cells_of}
use Rattle.grid.proofs.Lines.{length-cells_of}
use Rattle.hint.proofs.Asked.{zero-empty}
use Rattle.hint.proofs.Gaps.{first-sword, agree-first, agree-next, several-eyes, one-eye, walk-less}
use Rattle.hint.proofs.eyes.only_eye.Goals as goal

pub eye_at-first-requires : goal.eye_at-first-requires
eye_at-first-requires c =
    let hp : c.args.code < 225 = omega arith in
    let f = first-sword c.args.side (cells_of c.args.lines.now) c.args.code (length-cells_of c.args.lines.now) hp
    (zero-empty c.requires.1) c.requires.2 c.requires.3 c.next_start-sword.ensures in
    (c.requires.0, c.requires.1, f.0, f.1)

pub loop-sword-init : goal.loop-sword-init
loop-sword-init c =
    let hp : c.args.code < 225 = omega arith in
    let C = cells_of c.args.lines.now in
    let long = length-cells_of c.args.lines.now in
    let f = first-sword c.args.side C c.args.code long hp (zero-empty c.requires.1) c.requires.2 c.requires.3
    c.next_start-sword.ensures in
    agree-next c.args.side C c.args.code long hp (zero-empty c.requires.1) c.requires.2 _ c.next_start-sword.result
    (agree-first c.args.side C c.args.code long hp (zero-empty c.requires.1) c.requires.2 _
    c.next_start-sword.ensures)
    f.0 (sym c.eye_at-first.ensures) c.next_start-sword-2.ensures

pub returns-then-eye_at-first : goal.returns-then-eye_at-first
returns-then-eye_at-first c =
    let hp : c.args.code < 225 = omega arith in
    let f = first-sword c.args.side (cells_of c.args.lines.now) c.args.code (length-cells_of c.args.lines.now) hp
    (zero-empty c.requires.1) c.requires.2 c.requires.3 c.next_start-sword.ensures in
    several-eyes c.args.side (cells_of c.args.lines.now) c.args.code (length-cells_of c.args.lines.now) hp
    (zero-empty c.requires.1) c.next_start-sword.result c.loop-sword.sword f.0 c.loop-sword-test.true f.1
    (c.loop-sword.invariant.here c.loop-sword-test.true)
    (λ e. c.if-eye_at-first.true (c.eye_at.ensures ∙ e ∙ sym c.eye_at-first.ensures))

pub overflow_add-sword : goal.overflow_add-sword
overflow_add-sword c =
    let hp : c.args.code < 225 = omega arith in
    let f = first-sword c.args.side (cells_of c.args.lines.now) c.args.code (length-cells_of c.args.lines.now) hp
    (zero-empty c.requires.1) c.requires.2 c.requires.3 c.next_start-sword.ensures in
    omega (arith, f.0)

pub loop-sword-smaller : goal.loop-sword-smaller
loop-sword-smaller c =
    walk-less _ c.loop-sword.sword c.loop-sword-test.true c.next_start-sword-in-loop-sword.ensures

pub loop-sword-preserved : goal.loop-sword-preserved
loop-sword-preserved c =
    let hp : c.args.code < 225 = omega arith in
    agree-next c.args.side (cells_of c.args.lines.now) c.args.code (length-cells_of c.args.lines.now) hp
    (zero-empty c.requires.1) c.requires.2 _ c.loop-sword.sword c.loop-sword.invariant c.loop-sword-test.true
    (sym c.eye_at.ensures ∙ c.if-eye_at-first.false)
    c.next_start-sword-in-loop-sword.ensures

pub returns : goal.returns
returns c =
    let hp : c.args.code < 225 = omega arith in
    let f = first-sword c.args.side (cells_of c.args.lines.now) c.args.code (length-cells_of c.args.lines.now) hp
    (zero-empty c.requires.1) c.requires.2 c.requires.3 c.next_start-sword.ensures in
    one-eye c.args.side (cells_of c.args.lines.now) c.args.code (length-cells_of c.args.lines.now) hp
    (zero-empty c.requires.1) c.next_start-sword.result _ f.0 f.1 c.eye_at-first.ensures c.loop-sword.sword
    (omega arith) c.loop-sword.invariant
