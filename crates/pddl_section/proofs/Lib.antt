-- Laws that belong to no one function.
pub mod Chains
pub mod Lists
pub mod Patterns
