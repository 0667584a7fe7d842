-- PGM pictures and PFM maps as bytes, and what bytes say. What a reader must believe, in the order in which it is to be read.
pub mod Header
pub mod Order
pub mod Raster
pub mod Pgm
pub mod Pfm
pub mod Grammar
pub mod Outcome
-- what serves the functions inside alone
pub mod Inner
