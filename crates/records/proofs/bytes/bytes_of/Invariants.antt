-- `records::bytes::bytes_of` meets its contract: the entries before i are those of the table. Assumes nothing.
use Rattle.records.specs.Bytes.{spelled_at}
use Rattle.records.proofs.Laws.{Filled}
use Rattle.records.proofs.bytes.bytes_of.Given as goal

abbrev pub invariant-loop-i : goal.invariant-loop-i
invariant-loop-i l = Filled 4097 (spelled_at l.digits) l.i l.bytes
