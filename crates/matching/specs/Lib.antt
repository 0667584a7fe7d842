-- The definitions that the contracts of `matching` cite: `Maps`, `Outcome` and `Accepted` are what a reader must believe, `Inner` is cited by inner functions only.
pub mod Maps
pub mod Outcome
pub mod Accepted
pub mod Inner
