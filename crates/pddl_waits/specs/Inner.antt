-- Inner invariants: no promise of the public functions.
pub mod Wait
pub mod Waits
