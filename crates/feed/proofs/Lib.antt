-- The laws of the move feed. Runs.antt has document 02's sentences, of every run.

-- which lists begin others; what the shorter lacks, told by which is longer
pub mod Begins
-- lists of moves by value: one move more, the last one fewer
pub mod Lists
-- what taking, adding, taking back and hearing do; what is refused changes nothing
pub mod Taking
-- a client that keeps its list in lent bytes is a client by value
pub mod Lent
-- what every moment of a run keeps
pub mod Kept
-- what holds in every run
pub mod Runs
-- the steps of a run are the crate's functions, by their contracts
pub mod Calls
-- one run, computed
pub mod Examples
