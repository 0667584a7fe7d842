-- The laws of digits and of pens.
pub mod Digits
pub mod Decimals
pub mod Pens
