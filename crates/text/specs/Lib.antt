pub mod Buffers
pub mod Texts
pub mod Sheets
