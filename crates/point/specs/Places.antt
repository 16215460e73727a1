-- Where the line through a point stands among the stored ones.
use Rattle.std.specs.Prelude.{Bool, true, false, ◌&&◌, cond, List, ℕ, ◌+◌, ◌*◌, ◌/◌, ◌%◌, ltb, get_or}
use Rattle.rules.specs.Tools.{tab}
use Rattle.rules.specs.Point.{by_direction, cell_no, stored_at, key_at}
use Rattle.point.specs.declared.place.Place.{Place}

-- there is such a point, and the line through it in direction d is stored
unfoldable pub has_place : ℕ → ℕ → Bool
has_place d p = ltb p 225 && stored_at d p

-- its key and the point's cell on it
unfoldable pub place_of : ℕ → ℕ → Place
place_of d p =
    cond (has_place d p) (record { stored = true; key = key_at d p; cell = cell_no d p }) (record { stored = false; key = 0; cell = 0 })

-- ---- the table of addresses (document 02, No. 2)

-- "the line's key and cell packed as 16 times key plus cell, and 65535 for a diagonal that is not stored"
unfoldable pub packed : ℕ → ℕ → ℕ
packed d p = cond (stored_at d p) (16 * key_at d p + cell_no d p) 65535

-- "a constant table of 900 numbers, four for each point": entry 4 · code + direction
unfoldable pub addresses : List ℕ
addresses = tab 900 (λ n. packed (n % 4) (n / 4))

-- what an entry says, of any table: a place on one of the 72 lines, or none
unfoldable pub unpacked : ℕ → Place
unpacked n = cond (ltb n 1152) (record { stored = true; key = n / 16; cell = n % 16 }) (record { stored = false; key = 0; cell = 0 })

-- the place of a point by a table: of `addresses` it is the place itself (proofs/Stored.antt, place-by)
unfoldable pub place_by : List ℕ → ℕ → ℕ → Place
place_by table d p = cond (ltb p 225) (unpacked (get_or table (4 * p + by_direction d 0 1 2 3) 0)) (record { stored = false; key = 0; cell = 0 })
