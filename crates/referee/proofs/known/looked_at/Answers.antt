-- `referee::known::looked_at` meets its contract. Assumes nothing.
use mathlib.Core.Path.{sym, subst}
use native.Mathlib.Omega.{arith}
use Prim.Native.Nat.{ℕ, ◌+◌, ◌<◌}
use lib.Dec.{T}
use Rattle.rules.specs.Grid.{starts_of, numbered}
use Rattle.rules.proofs.Numbered.{next-on}
use Rattle.grid.specs.Lines.{cells_of}
use Rattle.referee.proofs.Bounded.{made}
use Rattle.referee.proofs.Told.{known-none, no-starts, three-at, next-there, next-further}
use Rattle.referee.proofs.known.looked_at.Goals as goal

pub loop-three-init : goal.loop-three-init
loop-three-init c =
    let e = c.next_start-three.ensures in (
      known-none (cells_of c.args.lines.now) c.args.code c.args.threes _ c.requires.1 no-starts,
      λ h. subst (λ (x : ℕ). T (numbered (starts_of c.args.threes) x)) (sym e) (next-on _ 0 (subst (λ (x : ℕ). x < 64) e h)),
    )

pub looked-known-requires : goal.looked-known-requires
looked-known-requires c =
    let t = c.requires in
    let h = c.loop-three-test.true in (
      t.0,
      rw (made 64 c.loop-three.three c.new.ensures c.unwrap.ensures)
          (three-at (cells_of c.args.lines.now) c.args.code c.args.threes t.1 c.loop-three.three h (c.loop-three.invariant.1 h)),
      c.loop-three.invariant.0,
    )

pub loop-three-smaller : goal.loop-three-smaller
loop-three-smaller c =
    let h = c.loop-three-test.true in
    let g = next-further c.args.threes (c.loop-three.three + 1) c.is_told.result c.next_unless-three.ensures (omega arith) in
    omega arith

pub loop-three-preserved : goal.loop-three-preserved
loop-three-preserved c = (
  c.looked-known.ensures,
  next-there c.args.threes (c.loop-three.three + 1) c.is_told.result c.next_unless-three.ensures,
)
