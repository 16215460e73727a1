-- `near::starts::some_row` meets its contract. Assumes nothing.
use mathlib.Core.Path.{◌∙◌, ap}
use mathlib.Core.Bool.{not}
use Prim.Native.Nat.{ℕ}
use lib.Dec.{eqb}
use Rattle.rules.specs.Grid.{starts_of, numbered}
use Rattle.rules.proofs.Bits.{mask-any}
use Rattle.rules.proofs.Numbered.{some-numbered}
use Rattle.near.proofs.starts.some_row.Goals as goal

pub returns : goal.returns
returns c =
    let s = starts_of c.args.starts in
    ap (λ (m : ℕ). not (eqb m 0)) c.word_of.ensures ∙ mask-any 64 (numbered s) ∙ some-numbered s
