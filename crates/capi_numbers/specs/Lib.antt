pub mod Call
pub mod Numbers
