-- Lemmas that belong to no one function. Of the code: `Parts` runs of a list, `Steps` the cells of a path step, `Places` the previous pixel, `Slots` where its
-- costs stand, `Walks` paths over a picture, `Visits` one pixel of them, `Blocks` lists that are made part by part, `Added` the eight directions, `Costed` the
-- matching costs, `Turning` those for the other picture. Of the ranges: `Units` and `Counts` floats counted in units, `Bounded` path costs and sums, `Orders` the
-- order of bit patterns, `Ranges` what docs/SPECIFICATION.md says of the ranges, and `Ready` that a visit finds them. Of both pictures: `Turned` that the costs for
-- the other picture are those of the other raw volume.
pub mod Parts
pub mod Steps
pub mod Places
pub mod Slots
pub mod Walks
pub mod Visits
pub mod Blocks
pub mod Added
pub mod Costed
pub mod Turning
pub mod Units
pub mod Counts
pub mod Bounded
pub mod Orders
pub mod Ranges
pub mod Ready
pub mod Turned
