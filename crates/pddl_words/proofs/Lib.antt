-- Laws that belong to no one function.
pub mod Facts
pub mod Rows
