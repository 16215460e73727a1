-- `hint::tries::tries_of` meets its contract. Assumes nothing.
use native.Mathlib.Omega.{arith}
use Rattle.grid.specs.Lines.{cells_of}
use Rattle.hint.proofs.Marks.{keyed-covers}
use Rattle.hint.proofs.tries.tries_of.Goals as goal

pub returns : goal.returns
returns c =
    keyed-covers c.args.side (cells_of c.args.lines.now) _ (λ k h. c.loop-key.invariant k (omega arith))
