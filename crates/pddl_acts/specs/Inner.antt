-- Inner invariants: no promise of the public functions.
pub mod Names
pub mod Own
