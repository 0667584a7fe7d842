-- The sheet of a map, as bytes, and what bytes say. What a reader must believe, in the order in which it is to be read.
pub mod Limits
pub mod Number
pub mod Code
pub mod Sheet
pub mod Outcome
pub mod Given
-- what serves the functions inside alone
pub mod Inner
