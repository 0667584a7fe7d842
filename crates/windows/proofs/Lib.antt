-- Lemmas that belong to no one function.
pub mod Rows
pub mod Tables
pub mod Windows
pub mod Corners
pub mod Shifts
pub mod Parts
pub mod Crossed
pub mod Laws
pub mod Cauchy
pub mod Bounds
pub mod Flat
pub mod Affine
