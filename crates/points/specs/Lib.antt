-- What the functions of `points` answer; a reader has to believe both. Definitions only.
pub mod Point
pub mod Records
