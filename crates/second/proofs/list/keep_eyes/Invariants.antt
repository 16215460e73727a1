-- `second::list::keep_eyes` meets its contract: after i turns the cells below i are looked at. Assumes nothing.
use mathlib.Core.Path.{◌≡◌}
use mathlib.Core.List.{◌++◌}
use Rattle.rules.specs.Tools.{gather}
use Rattle.second.proofs.Gathered.{eye_item}
use Rattle.second.proofs.list.keep_eyes.Given as goal

abbrev pub invariant-loop-i : goal.invariant-loop-i
invariant-loop-i l = l.list ≡ l.initial.list ++ gather l.i (eye_item l.player l.board l.code l.d)
