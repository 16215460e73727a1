-- `masks::bit_at` meets its contract. Assumes nothing.
use mathlib.Core.Path.{sym, ◌∙◌}
use Prim.Native.Nat.{suc}
use native.Mathlib.Omega.{arith}
use borrow.Author.Rules.{rules}
use borrow.Author.Tests.{lt-leb}
use Rattle.rules.proofs.Bits.{bit-read, bit-above}
use Rattle.masks.proofs.Windows.{below}
use Rattle.masks.proofs.bits.bit_at.Goals as goal

pub returns-then-i-lt16 : goal.returns-then-i-lt16
returns-then-i-lt16 c = bit-read _ _

pub returns-else-i-lt16 : goal.returns-else-i-lt16
returns-else-i-lt16 c = lt-leb (suc c.args.i) 16 (omega arith) ∙ sym (bit-above _ 16 _ (search below) (search rules))
