pub mod Storable
pub mod Trips
