-- The lemmas that several functions' proofs cite, and what the walks find.
pub mod Indices
pub mod Signed
pub mod Sides
pub mod Columns
pub mod Costs
pub mod Own
pub mod Stepping
pub mod Parts
pub mod Spans
pub mod IndexFloats
pub mod LedRows
pub mod Chosen
pub mod MapRows
pub mod Walking
pub mod Largest
pub mod Smallest
pub mod Placed
