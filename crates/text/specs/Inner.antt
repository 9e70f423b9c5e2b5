-- Inner invariants: no promise of the public functions.
pub mod Byte
pub mod Place
pub mod Written
