-- The laws of the depth.

-- what one question looks at on sound lines: whether an eye completes a five, and whether a nested question is asked
pub mod Looked
-- a depth with its verdict as one answer, and the depth alone of it; the depth where no stone may be tried
pub mod Answered
