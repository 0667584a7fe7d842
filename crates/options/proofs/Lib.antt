-- Lemmas that belong to no one function.
pub mod Frames
pub mod Sides
pub mod Stored
