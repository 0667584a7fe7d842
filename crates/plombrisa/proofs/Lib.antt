-- The theorems of the exports.
pub mod Outcomes
