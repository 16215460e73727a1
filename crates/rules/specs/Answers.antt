-- Answers with refusals: the value where no refusal is given (0), else the refusal that the number names, alone.
use Rattle.std.specs.Prelude.{Bool, cond, ℕ, eqb, Result, Ok, Err, Option, Some, None}
use Rattle.rules.specs.declared.Player.{Player}
use Rattle.rules.specs.declared.Player.TheVariants.{Black, White}
use Rattle.rules.specs.declared.refusal.Refusal.{Refusal}
use Rattle.rules.specs.declared.refusal.Refusal.TheVariants as refusal
use Rattle.rules.specs.Refusals.{text_long, text_high, no_column, no_row, over_length, wrong_count, wrong_size, no_point, unsound, no_place, occupied, no_number, no_room, many_moves, malformed, turned_view, foreign_game, not_next, apart_lists, outside_subset, no_limit, one_sided}

-- the number of a refusal
abbrev pub refusal_no : Refusal → ℕ
refusal_no refusal.TextLong = text_long
refusal_no refusal.TextHigh = text_high
refusal_no refusal.NoColumn = no_column
refusal_no refusal.NoRow = no_row
refusal_no refusal.OverLength = over_length
refusal_no refusal.WrongCount = wrong_count
refusal_no refusal.WrongSize = wrong_size
refusal_no refusal.NoPoint = no_point
refusal_no refusal.Unsound = unsound
refusal_no refusal.NoPlace = no_place
refusal_no refusal.Occupied = occupied
refusal_no refusal.NoNumber = no_number
refusal_no refusal.NoRoom = no_room
refusal_no refusal.ManyMoves = many_moves
refusal_no refusal.Malformed = malformed
refusal_no refusal.TurnedView = turned_view
refusal_no refusal.ForeignGame = foreign_game
refusal_no refusal.NotNext = not_next
refusal_no refusal.ApartLists = apart_lists
refusal_no refusal.OutsideSubset = outside_subset
refusal_no refusal.NoLimit = no_limit
refusal_no refusal.OneSided = one_sided

-- the refusal of a number; any other number than theirs is taken for the last
abbrev pub refusal_named : ℕ → Refusal
refusal_named n =
    cond (eqb n text_long) refusal.TextLong (
    cond (eqb n text_high) refusal.TextHigh (
    cond (eqb n no_column) refusal.NoColumn (
    cond (eqb n no_row) refusal.NoRow (
    cond (eqb n over_length) refusal.OverLength (
    cond (eqb n wrong_count) refusal.WrongCount (
    cond (eqb n wrong_size) refusal.WrongSize (
    cond (eqb n no_point) refusal.NoPoint (
    cond (eqb n unsound) refusal.Unsound (
    cond (eqb n no_place) refusal.NoPlace (
    cond (eqb n occupied) refusal.Occupied (
    cond (eqb n no_number) refusal.NoNumber (
    cond (eqb n no_room) refusal.NoRoom (
    cond (eqb n many_moves) refusal.ManyMoves (
    cond (eqb n malformed) refusal.Malformed (
    cond (eqb n turned_view) refusal.TurnedView (
    cond (eqb n foreign_game) refusal.ForeignGame (
    cond (eqb n not_next) refusal.NotNext (
    cond (eqb n apart_lists) refusal.ApartLists (
    cond (eqb n outside_subset) refusal.OutsideSubset (
    cond (eqb n no_limit) refusal.NoLimit (
    refusal.OneSided)))))))))))))))))))))

-- a value, or why it is refused
unfoldable pub answer : {A : Type 0} → ℕ → A → Result A Refusal
answer refused v = cond (eqb refused 0) (Ok v) (Err (refusal_named refused))

-- a test that gives no value: passed, or why it is refused
abbrev pub checked : ℕ → Result Unit Refusal
checked refused = answer refused tt

-- passed, or this refusal
abbrev pub refused_by : {R : Type 0} → Bool → R → Result Unit R
refused_by passed r = cond passed (Ok tt) (Err r)

-- whose stone stands on a cell
abbrev pub stone_there : Bool → Bool → Option Player
stone_there black white = cond black (Some Black) (cond white (Some White) None)
