-- Demand 3, its change of pictures and what holds of the two maps; and the numbers given back: when each is answered, and that each can be.
pub mod Changes
pub mod Demand
pub mod Floats
pub mod Witnesses
pub mod FileWitnesses
pub mod HeapWitnesses
pub mod RowWitnesses
pub mod VendorWitnesses
pub mod LimitWitnesses
