-- Lemmas that belong to no one function, and the theorems.
pub mod Asking
pub mod Products
pub mod Targets
pub mod Disparities
pub mod Passing
pub mod Sweeping
pub mod Outcomes
pub mod Choices
pub mod Meaning
pub mod Own
pub mod Calls
