pub mod Jobs
pub mod Pairings
pub mod Results
