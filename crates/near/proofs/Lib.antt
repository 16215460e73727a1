-- The laws of the words of 64 places.

-- what the code computes fits a word; four masks as one word, and back
mod Places
-- the rows of the 64 places are those of the four lines
mod Lanes
-- the first set bit of a word from a place on
mod Next
-- more than one start in a word: one is left past the first and the next place
mod More
-- the first gap of a mask's stones from a cell on, by the lowest set bit
mod Gap
-- starts put in, taken out and left out, by the word of their numbers
mod Chosen
