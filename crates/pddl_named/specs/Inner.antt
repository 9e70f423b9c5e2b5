-- Inner invariants: no promise of the public functions.
pub mod Common
pub mod Rows
