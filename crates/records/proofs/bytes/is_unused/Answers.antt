-- `records::bytes::is_unused` meets its contract: `all` says whether each byte before this one is 255. Assumes nothing.
use mathlib.Core.Path.{ap, ◌∙◌}
use mathlib.Core.Bool.{Bool, ◌&&◌}
use Prim.Native.Nat.{ℕ}
use lib.Dec.{eqb}
use Rattle.rules.specs.Tools.{all_below}
use Rattle.rules.proofs.Logic.{and-flip}
use Rattle.records.specs.Records.{byte_at}
use Rattle.records.proofs.Laws.{below_none, below_more}
use Rattle.records.proofs.bytes.is_unused.Goals as goal

pub loop-byte-init : goal.loop-byte-init
loop-byte-init c = below_none _

pub loop-byte-preserved : goal.loop-byte-preserved
loop-byte-preserved c =
    let i = c.loop-byte.byte-index in
    let f : ℕ → Bool = (λ j. eqb (byte_at c.args.rest.now j) 255) in
    ap (λ (b : Bool). b && f i) c.loop-byte.invariant ∙ and-flip (all_below i f) (f i) ∙ below_more f i
