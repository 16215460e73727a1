-- `lists::codes::eyes_along` meets its contract: the eyes of the line that the address names, none where no line is stored. Assumes nothing.
use mathlib.Core.Path.{sym, ◌∙◌}
use Prim.Native.Nat.{◌<◌}
use native.Mathlib.Omega.{arith}
use Rattle.point.proofs.Stored.{place-stored, place-has, place-key}
use Rattle.rules.specs.declared.RowKind.TheVariants.{Four}
use Rattle.grid.specs.Lines.{cells_of}
use Rattle.grid.proofs.Placed.{by-addresses, starts-at}
use Rattle.lists.proofs.Shown.{point-eyes, no-eyes}
use Rattle.lists.proofs.codes.eyes_along.Goals as goal

pub returns-then-a : goal.returns-then-a
returns-then-a c =
    let a = c.args in
    let hd : a.d < 4 = omega (arith, c.get.ensures.value, c.get.ensures.below) in
    let e = by-addresses a.d a.code (rw (c.get.ensures.value, c.get-2.ensures.value) at c.address_by-a.ensures) c.numbers.ensures in
    let t = c.if-a.true in
    rw (
      c.eyes_of.ensures,
      c.eye_cells.ensures,
      c.starts_at.ensures
          ∙ starts-at c.address_by-a.result a.d a.code e a.lines.now a.player Four,
      c.key_size.ensures,
      c.mask_on-then-a.ensures,
      c.opponent.ensures,
      c.mask_on.ensures,
      place-key a.d a.code e t,
    )
    (point-eyes a.player a.lines.now a.code a.d c.requires hd (place-has a.d a.code e t))

pub returns : goal.returns
returns c =
    let a = c.args in
    let hd : a.d < 4 = omega (arith, c.get.ensures.value, c.get.ensures.below) in
    let hp : a.code < 225 = omega (arith, c.get-2.ensures.value, c.get-2.ensures.below) in
    let e = by-addresses a.d a.code (rw (c.get.ensures.value, c.get-2.ensures.value) at c.address_by-a.ensures) c.numbers.ensures in
    no-eyes a.player (cells_of a.lines.now) a.code a.d hd hp (sym (place-stored a.d a.code e) ∙ c.if-a.false)
