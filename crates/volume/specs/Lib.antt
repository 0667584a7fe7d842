-- The volume of a heap. What a reader must believe, in the order in which it is to be read: coordinates, the rectangle, heights, what the
-- calls answer and leave, and what it is that points stand in another order.
pub mod Metres
pub mod Rectangle
pub mod Heights
pub mod Outcome
pub mod Orders
-- what serves the functions inside alone
pub mod Inner
