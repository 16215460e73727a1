-- `hint::eyes::eye_at` meets its contract. Assumes nothing.
use native.Mathlib.Omega.{arith}
use Prim.Native.Nat.{◌/◌, ◌%◌}
use Rattle.grid.proofs.Placed.{by-addresses}
use Rattle.hint.proofs.Bounded.{made}
use Rattle.hint.proofs.OnLines.{eye-found, eye-byte}
use Rattle.hint.proofs.eyes.eye_at.Goals as goal

pub overflow_cast-result : goal.overflow_cast-result
overflow_cast-result c =
    let gap = rw (made 16 (c.args.sword % 16) c.new.ensures c.unwrap.ensures) at c.gap_from.ensures in
    let free = rw (← c.get-code.ensures.value) at c.requires.1 in
    let row = rw (← c.get-code.ensures.value) at c.requires.3 in
    omega (
      arith,
      eye-byte c.args.side c.args.lines.now c.get-code.result (c.args.sword / 16) (c.args.sword % 16) c.requires.0
          c.get-code.ensures.below
          free (omega (arith, c.requires.2)) row
          (by-addresses (c.args.sword / 16) c.get-code.result c.address_by-here.ensures c.numbers.ensures)
          c.mask_on.ensures c.set_bit-stones.ensures c.line_no.ensures gap
          c.point_at.ensures,
    )

pub returns : goal.returns
returns c =
    let gap = rw (made 16 (c.args.sword % 16) c.new.ensures c.unwrap.ensures) at c.gap_from.ensures in
    let free = rw (← c.get-code.ensures.value) at c.requires.1 in
    let row = rw (← c.get-code.ensures.value) at c.requires.3 in
    rw (← c.get-code.ensures.value)
    (eye-found c.args.side c.args.lines.now c.get-code.result (c.args.sword / 16) (c.args.sword % 16) c.requires.0 c.get-code.ensures.below
    free (omega (arith, c.requires.2)) row
    (by-addresses (c.args.sword / 16) c.get-code.result c.address_by-here.ensures c.numbers.ensures)
    c.mask_on.ensures c.set_bit-stones.ensures c.line_no.ensures gap
    c.point_at.ensures)
