pub mod Bounds
pub mod Tables
pub mod StreamedRows
pub mod Moves
pub mod Arrivals
