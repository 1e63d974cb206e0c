pub mod Lengths
pub mod LowBytes
pub mod Books
