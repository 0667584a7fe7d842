-- The definitions that the contracts of `options` cite.
pub mod Options
pub mod Limits
pub mod Frame
pub mod Costs
