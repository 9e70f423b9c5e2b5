pub mod Grammar
pub mod Lexed
pub mod Masks
pub mod Names
pub mod RoundTrip
pub mod Rows
pub mod Waits
pub mod Words
