-- Lemmas that belong to no one function.
pub mod Fitting
pub mod Lengths
pub mod Ranged
pub mod Blocks
pub mod Turns
pub mod Tail
pub mod Outcomes
pub mod Ranges
pub mod SideMaps
pub mod SemiMaps
