pub mod Entries
pub mod Gathers
