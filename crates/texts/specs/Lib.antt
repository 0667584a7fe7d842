-- Numbers as text, and what a pen writes.
pub mod Digits
pub mod Pen
