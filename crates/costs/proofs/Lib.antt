-- Lemmas that belong to no one function.
pub mod RootBits
pub mod OneLevel
pub mod Spans
pub mod Readings
pub mod PairCosts
pub mod Frames
pub mod Turns
pub mod Planes
pub mod Signed
pub mod Volumes
pub mod Outcomes
pub mod Laws
pub mod Quotients
pub mod Turned
pub mod Scaling
