-- `records::bytes::cells_of` meets its contract: the entries before i are those of the table. Assumes nothing.
use Rattle.records.specs.Bytes.{cell_in}
use Rattle.records.proofs.Laws.{Filled}
use Rattle.records.proofs.bytes.cells_of.Given as goal

abbrev pub invariant-loop-i : goal.invariant-loop-i
invariant-loop-i l = Filled 225 (cell_in l.field) l.i l.cells
