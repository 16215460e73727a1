-- A turned board as it is filled in, column by column.
use Rattle.std.specs.Prelude.{cond, List, ℕ, ltb, get_or}
use Rattle.rules.specs.Tools.{tab}
use Rattle.rules.specs.Views.{turn}

-- the points below i filled in, with what stands where the view sends them
unfoldable pub turned_to : ℕ → ℕ → List ℕ → List ℕ
turned_to i v cells = tab 225 (λ q. cond (ltb q i) (get_or cells (turn v q) 0) 0)
