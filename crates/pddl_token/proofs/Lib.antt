-- Laws that belong to no one function.
pub mod Bytes
pub mod Reading
