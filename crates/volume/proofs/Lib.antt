-- Lemmas that the functions' proofs share, and the theorems: `Coordinates`, `Counts`, `Ordering`, `Greatest`, `Even`, `Largest`, `Refusing` and `Measured` have those.
pub mod Coordinates
pub mod Spots
pub mod Differences
pub mod Cells
pub mod Counts
pub mod Ordering
pub mod Greatest
pub mod Area
pub mod Even
pub mod Largest
pub mod Refusing
pub mod Filling
pub mod Settling
pub mod Lowered
pub mod Measured
pub mod Examples
