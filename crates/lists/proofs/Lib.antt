-- The laws of the words of specs/, and of signed numbers.
pub mod Lists
pub mod Tests
pub mod Firsts
pub mod Walks
pub mod Clearing
pub mod Rows
pub mod Sums
pub mod Sizes
pub mod Stores
