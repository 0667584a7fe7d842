-- The worked examples hold.
pub mod Worked
