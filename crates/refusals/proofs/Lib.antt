-- The laws of refusals: rows by their place, groups of rows, steps, and texts that are written.
pub mod Answering
pub mod Cases
pub mod Groups
pub mod Numbers
pub mod Outcomes
pub mod Stepwise
pub mod Writes
