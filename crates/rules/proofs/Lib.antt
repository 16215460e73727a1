-- The laws of the rules, for other crates to cite.

-- what a passed test says, and how one is made: not, and, or, some and all below a number
pub mod Logic
-- what no refusal says of the tests behind it; an answer is told by its refusal and its value
pub mod Refusals
-- two functions of a few Bools that agree on all their values are the same
pub mod Tables
-- the bits of a number and of the mask of a test, at any width; how many are set
pub mod Bits
-- lists made number by number, and lists of pairs in code order
pub mod Lists
-- a point's line and cell name the point, and the other way round; keys; steps along a line
pub mod Address
-- where a view sends points and lines, and which view sends them back
pub mod Turns
-- what a passed test of a window or of a row says of its cells
pub mod Windows
-- the segment of a window answers as the window does on its line
pub mod Around
-- a line read backwards has the same rows
pub mod Mirror
-- "more than one", by two starts; it looks at directions below 4 and starts below 16
pub mod More
-- two starts that are two or more apart are "a set not contained in {j, j+1}"
pub mod Apart
-- the rows through a cell, counted back from it
pub mod Back
-- put and remove: what stands where; any sequence as a plain map; one empty point fewer after a stone
pub mod Changes
-- where the rows and eyes of a board can be
pub mod Rows
-- four start masks name their starts; section 5's tests by them are those of the cells
pub mod Starts
-- starts by their numbers: the first from a number on; some start, and more than one
pub mod Numbered
-- a Three has exactly one eye, and is real where that is good: no five, and the strict verdict none
pub mod Eye
-- that eye is the first of its four cells without a black stone; one look there tells whether the Three is real
pub mod Gap
-- the Twos through an empty point are the Threes through it once the player plays there, and the Fours are the Fives
pub mod Grown
-- a question that asks itself, whatever its answers are, is answered by as many steps as there are empty points
pub mod Fuel
-- the verdicts by the cell, by the five and by the tests of section 5; a double three by the board with the stone
pub mod Verdicts
-- the starts that four start masks name are the Threes through a point
pub mod Search
-- the forbidden list names each forbidden point once with its kind, in code order, and nothing else; its length
pub mod Listed
-- no test of section 5, and no question that asks itself, sees which view a board is in
pub mod Eight
-- the eight views: the same verdicts at the turned point, and the turned list
pub mod Views
-- one view after another: which view that is; grouping, view 0 and the return, once for all that is turned, and of points, cells and lists
pub mod Composed
-- how deep a strict question goes: the same fuel; at most the number of empty points; the same in all eight views; the search for the deepest
pub mod Depth
-- what a five is, for Black and for White; the Fours before the stone tell it; it is the same in all eight views
pub mod Fives
-- C1 to C12; beside them the boards that section 9 and document 02, No. 6, turn
pub mod Cases
