-- What the functions of `rows` answer, and what an index is. Definitions only.
pub mod Index
pub mod Runs
