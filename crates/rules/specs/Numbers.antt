-- The paper's number of each case of each enum (sections 2, 4 and 5), and the case of each number.
use Rattle.std.specs.Prelude.{Bool, true, false, cond, ◌||◌, ℕ, eqb}
use Rattle.rules.specs.declared.Player.{Player}
use Rattle.rules.specs.declared.Player.TheVariants.{Black, White}
use Rattle.rules.specs.declared.Direction.{Direction}
use Rattle.rules.specs.declared.Direction.TheVariants.{Vertical, Horizontal, Ascending, Descending}
use Rattle.rules.specs.declared.RowKind.{RowKind}
use Rattle.rules.specs.declared.RowKind.TheVariants.{Two, Three, Straight, Sword, Four, Five, Overlining, Overlined}
use Rattle.rules.specs.declared.Verdict.{Verdict}
use Rattle.rules.specs.declared.Verdict.TheVariants.{None, DoubleThree, DoubleFour, Overline}

-- "1 Black and 2 White"
abbrev pub colour_no : Player → ℕ
colour_no Black = 1
colour_no White = 2

-- any other number is taken for White; refusal 12 comes first wherever a number is handed in
abbrev pub player_of : ℕ → Player
player_of n = cond (eqb n 1) Black White

abbrev pub is_colour : ℕ → Bool
is_colour n = eqb n 1 || eqb n 2

abbrev pub is_black : Player → Bool
is_black Black = true
is_black White = false

abbrev pub is_white : Player → Bool
is_white Black = false
is_white White = true

abbrev pub opponent_of : Player → Player
opponent_of Black = White
opponent_of White = Black

-- "a direction .. (section 4's order)": vertical, horizontal, ascending, descending
abbrev pub direction_no : Direction → ℕ
direction_no Vertical = 0
direction_no Horizontal = 1
direction_no Ascending = 2
direction_no Descending = 3

abbrev pub direction_of : ℕ → Direction
direction_of n = cond (eqb n 0) Vertical (cond (eqb n 1) Horizontal (cond (eqb n 2) Ascending Descending))

-- "a row kind .. (order of `row.rs`)"
abbrev pub kind_no : RowKind → ℕ
kind_no Two = 0
kind_no Three = 1
kind_no Straight = 2
kind_no Sword = 3
kind_no Four = 4
kind_no Five = 5
kind_no Overlining = 6
kind_no Overlined = 7

abbrev pub kind_of : ℕ → RowKind
kind_of n =
    cond (eqb n 0) Two
    (cond (eqb n 1) Three
    (cond (eqb n 2) Straight (cond (eqb n 3) Sword (cond (eqb n 4) Four (cond (eqb n 5) Five (cond (eqb n 6) Overlining Overlined))))))

-- "kind byte (1 DoubleThree, 2 DoubleFour, 3 Overline; none as a number is 0)"
abbrev pub verdict_no : Verdict → ℕ
verdict_no None = 0
verdict_no DoubleThree = 1
verdict_no DoubleFour = 2
verdict_no Overline = 3

abbrev pub is_none : Verdict → Bool
is_none None = true
is_none DoubleThree = false
is_none DoubleFour = false
is_none Overline = false
