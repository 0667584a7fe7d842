-- Lemmas that the functions' proofs share, and the theorems.
pub mod Facts
pub mod Laws
pub mod Refusing
pub mod Filling
