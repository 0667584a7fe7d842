-- The definitions that the contracts of `calls` cite.
pub mod Refusals
pub mod Accepted
