-- Demand 3: `Demand` has the theorem, `Examples` its worked pairs, and the modules before it what it leans on. `Refused`, `FilesRefused`, `HeapsRefused`, `RowsRefused` and `VendorsRefused`: the numbers given back. `Limits`: both sides of every limit. `Counted`: the points of a map, measured. `Covers`: the cover of a match's map. `Outcomes`: each call has one outcome.
pub mod Pairs
pub mod Blank
pub mod Maps
pub mod Agreeing
pub mod Rows
pub mod Demand
pub mod Tested
pub mod Examples
pub mod Refused
pub mod FilesRefused
pub mod HeapsRefused
pub mod RowsRefused
pub mod VendorsRefused
pub mod Limits
pub mod Counted
pub mod Covers
pub mod Outcomes
