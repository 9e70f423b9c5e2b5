-- Inner invariants: no promise of the public functions.
pub mod Appended
pub mod Limits
pub mod Place
