-- `second::count::count_along` meets its contract: after j turns the starts below j are seen. Assumes nothing.
use Rattle.rules.specs.Grid.{rows_through}
use Rattle.rules.specs.declared.Player.TheVariants.{Black}
use Rattle.second.proofs.Tallied.{Seen}
use Rattle.second.proofs.count.count_along.Given as goal

abbrev pub invariant-loop-j : goal.invariant-loop-j
invariant-loop-j l = Seen (rows_through Black l.kind l.board l.code l.d) l.j l.first
