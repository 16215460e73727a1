-- `second::list::forbidden_pairs` meets its contract: after p turns the points below p are asked, and the board is as it was. Assumes nothing.
use mathlib.Core.Path.{◌≡◌}
use Rattle.rules.specs.Tools.{gather}
use Rattle.rules.specs.Forbidden.{strict_of, entry}
use Rattle.second.proofs.list.forbidden_pairs.Given as goal

abbrev pub invariant-loop-p : goal.invariant-loop-p
invariant-loop-p l = (l.board ≡ l.initial.board) × (l.list ≡ gather l.p (λ q. entry (strict_of l.initial.board q) q))
