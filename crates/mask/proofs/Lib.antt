pub mod Halves
pub mod Stored
