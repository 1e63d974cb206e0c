pub mod Record
pub mod Job
pub mod Call
