-- The definitions that the contracts of `choices` cite. `Block`, `Subpixel`, `SemiGlobal`, `LeftRight` and `Extremes` are what a reader must believe;
-- `Seen`, `Leading` and `RowChoice` serve the loops over a row. (`seen_as` stands in the contract of `select_block` too.)
pub mod Block
pub mod Subpixel
pub mod SemiGlobal
pub mod LeftRight
pub mod Extremes
pub mod Seen
pub mod Leading
pub mod RowChoice
