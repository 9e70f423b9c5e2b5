-- Inner invariants: no promise of the public functions.
pub mod Parts
pub mod Put
