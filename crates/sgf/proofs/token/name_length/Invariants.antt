-- `sgf::token::name_length` meets its contract: the bytes below i are capital letters. Assumes nothing.
use mathlib.Core.Path.{◌≡◌}
use Prim.Native.Nat.{◌+◌}
use lib.ListN.{drop}
use Rattle.sgf.specs.Tokens.{name_length}
use Rattle.sgf.proofs.token.name_length.Given as goal

abbrev pub invariant-loop-i : goal.invariant-loop-i
invariant-loop-i l = name_length l.s ≡ l.i + name_length (drop l.i l.s)
