-- What a map's functions answer. A reader has to believe `Cells` and `Map`; `Extremes` says once more, without the walk, what a range is. `Inner`: what the inner functions ask.
pub mod Cells
pub mod Map
pub mod Extremes
pub mod Inner
