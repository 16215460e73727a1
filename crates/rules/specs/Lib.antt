-- The rules of document 01, cell by cell: what every statement of the project cites. Sections 2 to 6 and 8 stand here, a file or two each.
pub mod Numbers
pub mod Refusals
pub mod Answers
pub mod Tools
pub mod Bit
pub mod Line
pub mod Point
pub mod Grid
pub mod Forbidden
pub mod Depth
pub mod Fives
pub mod Views
pub mod Cases
