-- `Kept` and `Counted`: what an index promises; `Refusing`: the law of its refusals; `Accepted`: what a call that is not refused has; `Writing`: the index
-- while it is written.
pub mod Accepted
pub mod Kept
pub mod Counted
pub mod Refusing
mod Writing
