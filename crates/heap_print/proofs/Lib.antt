pub mod Counts
pub mod Outcome
pub mod Prefix
