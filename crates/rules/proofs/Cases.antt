-- C1 to C12 (section 8): one table, one computed statement. Assumes nothing.
use lib.Dec.{T}
use Rattle.rules.specs.Tools.{any_below, gather}
use Rattle.rules.specs.Line.{inside, free, count, beside, dead, scores, holds, pair_at, no_stone, open_at, over_at, row_at, among, empty_at}
use Rattle.rules.specs.Line.{is_eye, eye_of_some}
use Rattle.rules.specs.Point.{line_no, cell_no, line_size, point_at}
use Rattle.rules.specs.Grid.{empties, stone_at, row_on, eye_on, rows_through}
use Rattle.rules.specs.Forbidden.{some_row, on_two_lines, apart, more_than_one, good_eye, is_real, real_threes, is_overline, is_double_four}
use Rattle.rules.specs.Forbidden.{is_double_three, plain_with, completes_five, strict_with, nested_n, nested_of, strict_of, plain_of}
use Rattle.rules.specs.Cases.{every, cases, stone_is_on, strict_before, eye_is_no_five}

pub table : T (every cases)
unfolding cases any_below gather inside free count beside dead scores holds pair_at no_stone open_at over_at row_at among empty_at is_eye eye_of_some
    line_no cell_no line_size point_at empties stone_at row_on eye_on rows_through some_row on_two_lines apart more_than_one good_eye is_real real_threes
    is_overline is_double_four is_double_three plain_with completes_five strict_with nested_n nested_of strict_of plain_of
table = tt

-- the board that section 9's fourth error gets wrong
pub stone-is-on : T stone_is_on
unfolding stone_is_on any_below gather inside free count beside dead scores holds pair_at no_stone open_at over_at row_at among empty_at is_eye
    eye_of_some
    line_no cell_no line_size point_at empties stone_at row_on eye_on rows_through some_row on_two_lines apart more_than_one good_eye is_real real_threes
    is_overline is_double_four is_double_three plain_with completes_five strict_with nested_n nested_of strict_of plain_of
stone-is-on = tt

-- two boards that document 02's No. 6 answers otherwise than document 01 alone, both answers: at the eye itself, and one question deeper
pub eye-is-no-five : T (every eye_is_no_five)
unfolding eye_is_no_five strict_before any_below gather inside free count beside dead scores holds pair_at no_stone open_at over_at row_at among empty_at is_eye
    eye_of_some
    line_no cell_no line_size point_at empties stone_at row_on eye_on rows_through some_row on_two_lines apart more_than_one good_eye is_real real_threes
    is_overline is_double_four is_double_three plain_with completes_five strict_with nested_n nested_of strict_of plain_of
eye-is-no-five = tt
