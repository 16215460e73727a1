-- `referee::thin::put_in` meets its contract: the stone is on the lines, and Black has one more. Assumes nothing.
use native.Mathlib.Omega.{arith}
use Rattle.referee.proofs.Trial.{stone-on, blacks-few}
use Rattle.referee.proofs.thin.put_in.Goals as goal

pub overflow_add-b : goal.overflow_add-b
overflow_add-b c =
    let few = blacks-few c.args.code 0 c.args.b.now c.requires in
    record { fits = omega (arith, few) }

pub returns : goal.returns
returns c = stone-on c.args.code c.args.b.now c.requires c.put_black.ensures
