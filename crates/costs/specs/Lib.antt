-- The definitions that the contracts of `costs` cite: `Raw`, `Volume` and `Outcome` are what a reader must believe; the others are cited by inner functions only.
pub mod Raw
pub mod Volume
pub mod Outcome
pub mod Roots
pub mod Rooms
pub mod Quotient
pub mod Span
