-- The windows of a line without an end, as the masks of 64 places have them: what lies past the last place has no stone.
use Rattle.std.specs.Prelude.{Bool, not, ◌&&◌, ℕ, ◌-◌, leb, eqb}
use Rattle.rules.specs.Bit.{bit}
use Rattle.rules.specs.Line.{Stones, free, count, dead}

-- the window at k is alive and holds n own stones; `black` says that the own colour is Black
unfoldable pub alive_with : Bool → Stones → Stones → ℕ → ℕ → Bool
alive_with black own blocked n k = not (dead black own blocked k) && eqb (count own k) n

-- it is free and holds n, "counted without the dead rule"
unfoldable pub free_with : Stones → Stones → ℕ → ℕ → Bool
free_with own blocked n k = free blocked k && eqb (count own k) n

-- windows k−1 and k are both in the mask
abbrev pub pair_in : ℕ → ℕ → Bool
pair_in windows k = bit windows k && (leb 1 k && bit windows (k - 1))
