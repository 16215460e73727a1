-- `point::table::addresses` meets its contract: the table is the list of section 3's addresses, which antt computes, all 900 entries in one
-- test. Assumes nothing.
use mathlib.Core.Path.{refl}
use Rattle.rules.specs.Tools.{tab}
use Rattle.rules.specs.Point.{line_no, cell_no, stored, key_of, stored_at, key_at}
use Rattle.point.specs.Places.{packed, addresses}
use Rattle.point.proofs.table.addresses.Goals as goal

pub returns : goal.returns
unfolding addresses tab packed stored_at key_at stored key_of line_no cell_no
returns c = refl
