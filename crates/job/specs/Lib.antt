pub mod Heads
pub mod Books
pub mod Grounds
pub mod Outcomes
pub mod Jobs
pub mod Results
pub mod Keeps
