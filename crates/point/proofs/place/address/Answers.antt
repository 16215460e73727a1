-- `point::place::address` meets its contract: the table is the one of section 3's addresses. Assumes nothing.
use mathlib.Core.Path.{ap, ◌∙◌}
use mathlib.Core.List.{List}
use Prim.Native.Nat.{ℕ}
use Rattle.point.specs.Places.{place_by}
use Rattle.point.proofs.Stored.{place-by}
use Rattle.point.proofs.place.address.Goals as goal

pub returns : goal.returns
returns c =
    let a = c.args in
    c.address_by.ensures ∙ ap (λ (t : List ℕ). place_by t a.d a.code) c.addresses-table.ensures ∙ place-by a.d a.code
