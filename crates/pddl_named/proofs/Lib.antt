-- Laws that belong to no one function.
pub mod Agreeing
pub mod Gathering
pub mod Passing
