-- What the contracts of `paths` cite: `Cost` the matching cost, `Path` one pixel, `Walk` a picture, `Room` runs of cells, `Bounds` the ranges.
pub mod Cost
pub mod Path
pub mod Room
pub mod Walk
pub mod Bounds
