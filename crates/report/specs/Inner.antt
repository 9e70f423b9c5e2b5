-- Inner invariants: no promise of the public functions.
pub mod Put
pub mod Slices
