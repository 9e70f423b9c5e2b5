-- Laws that belong to no one function.
pub mod Named
pub mod Tallying
