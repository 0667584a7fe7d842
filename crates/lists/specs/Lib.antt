-- The words that several crates use of lists and of sums.
pub mod Lists
pub mod Rows
pub mod Sums
pub mod Stores
pub mod Turned
