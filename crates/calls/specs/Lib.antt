pub mod Grounds
pub mod Outcomes
pub mod Calls
pub mod Files
pub mod Logs
pub mod Plain
pub mod Law
pub mod Performed
