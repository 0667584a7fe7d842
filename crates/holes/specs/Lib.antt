-- The definitions that the contracts of `holes` cite.
pub mod Holes
