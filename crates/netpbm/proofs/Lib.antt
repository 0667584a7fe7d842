-- The laws of the definitions, and what several functions' proofs share. The theorems: `Orders` and `PfmRoundTrip` (a map out and in again), `PgmHeaders` and `PfmHeaders` (just which bytes are read), `Refusing` (why others are not, and the order of refusals); `Examples` has files of Netpbm's own tools.
pub mod Headers
pub mod Readings
pub mod Orders
pub mod PfmWritings
pub mod Takes
pub mod Rasters
pub mod PgmHeaders
pub mod PfmHeaders
pub mod PfmRoundTrip
pub mod Refusing
pub mod Examples
