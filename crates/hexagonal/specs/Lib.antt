pub mod Channels
pub mod Collisions
pub mod Hexagonal
pub mod House
pub mod Sources
pub mod Lawful
pub mod HouseLemmas
