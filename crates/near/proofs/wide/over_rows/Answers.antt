-- `near::wide::over_rows` meets its contract, bit by bit. Assumes nothing.
use Rattle.rules.proofs.Bits.{mask-ext}
use Rattle.masks.proofs.Windows.{bits}
use Rattle.near.proofs.Places.{wide, shl64}
use Rattle.near.proofs.wide.over_rows.Goals as goal

pub returns : goal.returns
returns c = mask-ext 64 _ _ (search wide) (λ j k. simp (bits, shl64))
