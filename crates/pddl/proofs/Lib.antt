-- Laws that belong to no one function.
pub mod Building
pub mod Stages
pub mod Whole
