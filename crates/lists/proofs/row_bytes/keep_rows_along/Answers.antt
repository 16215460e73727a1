-- `lists::row_bytes::keep_rows_along` meets its contract: the rows of the line, none where it is not stored. Assumes nothing.
use mathlib.Core.Path.{ap, sym, ◌∙◌}
use mathlib.Core.List.{List, ◌++◌, append-nil}
use Prim.Native.Nat.{ℕ, ◌<◌}
use native.Mathlib.Omega.{arith}
use Rattle.point.proofs.Stored.{place-stored, place-has, place-key}
use Rattle.grid.specs.Lines.{cells_of}
use Rattle.grid.proofs.Placed.{by-addresses, starts-at}
use Rattle.lists.proofs.Shown.{point-rows, no_rows}
use Rattle.lists.proofs.row_bytes.keep_rows_along.Goals as goal

pub keep_rows-requires : goal.keep_rows-requires
keep_rows-requires c =
    (omega arith, c.requires.1)

pub returns-then-a : goal.returns-then-a
returns-then-a c =
    let a = c.args in
    let hd : a.d < 4 = omega (arith, c.get.ensures.value, c.get.ensures.below) in
    let e = by-addresses a.d a.code (rw (c.get.ensures.value, c.get-2.ensures.value) at c.address_by-a.ensures) c.numbers.ensures in
    let t = c.if-a.true in
    c.keep_rows.ensures
    ∙ ap (λ (x : List ℕ). a.list.now ++ x)
    (rw (
      c.starts_at-starts.ensures ∙ starts-at c.address_by-a.result a.d a.code e a.lines.now a.player a.kind,
      c.mask_on-op.ensures,
      c.opponent.ensures,
      c.mask_on-my.ensures,
      place-key a.d a.code e t,
    )
    (point-rows a.player a.kind a.lines.now c.requires.0 a.code a.d hd (place-has a.d a.code e t)))

pub returns-else-a : goal.returns-else-a
returns-else-a c =
    let a = c.args in
    let hd : a.d < 4 = omega (arith, c.get.ensures.value, c.get.ensures.below) in
    let hp : a.code < 225 = omega (arith, c.get-2.ensures.value, c.get-2.ensures.below) in
    let e = by-addresses a.d a.code (rw (c.get.ensures.value, c.get-2.ensures.value) at c.address_by-a.ensures) c.numbers.ensures in
    sym (append-nil a.list.now)
    ∙ ap (λ (x : List ℕ). a.list.now ++ x)
    (no_rows a.player a.kind (cells_of a.lines.now) a.code a.d hd hp (sym (place-stored a.d a.code e) ∙ c.if-a.false))
