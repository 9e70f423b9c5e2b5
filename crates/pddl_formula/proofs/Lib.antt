-- Laws that belong to no one function.
pub mod Openings
pub mod Meanings
pub mod Parts
pub mod Lists
