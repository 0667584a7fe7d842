-- The definitions that the contracts of `plombrisa` cite.
pub mod Options
pub mod Host
