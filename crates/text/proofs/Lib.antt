-- Laws that belong to no one function.
pub mod Lists
pub mod Longest
pub mod RoundTrip
pub mod Scanning
pub mod Stands
