pub mod Numbers
pub mod Positions
pub mod Made
pub mod NoFaults
pub mod Keeping
pub mod Readings
pub mod Sound
