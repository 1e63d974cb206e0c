pub mod Encodings
pub mod Handed
