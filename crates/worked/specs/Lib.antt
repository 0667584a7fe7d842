-- The worked examples (docs/SPECIFICATION.md, "Worked examples").
pub mod Pictures
pub mod Examples
