pub mod Places
pub mod Slices
pub mod Sheets
