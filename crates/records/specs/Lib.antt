pub mod Format
pub mod Kinds
pub mod Orders
pub mod Walk
pub mod Files
pub mod Layout
pub mod Stops
pub mod Laws
