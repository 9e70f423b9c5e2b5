-- Laws that belong to no one function.
pub mod Lists
pub mod Tokens
