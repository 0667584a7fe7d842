-- The laws of the sheet. The theorems: `Numbers` and `Codes` (a number, a cell and back), `RoundTrip` (a map out and in again), `Refusing` (the order of refusals).
pub mod Numbers
pub mod Codes
pub mod Writings
pub mod Readings
pub mod RoundTrip
pub mod Refusing
pub mod Examples
