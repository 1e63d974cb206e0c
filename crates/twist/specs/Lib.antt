pub mod Model
pub mod Kinds
pub mod Laws
pub mod Sources
