-- The definitions that the contracts of `vendor` cite: `Verdict`, `Outcome` and `Meaning` are what a reader must believe, the others are cited by inner functions only.
pub mod Verdict
pub mod Outcome
pub mod Meaning
pub mod Tests
pub mod Inner
