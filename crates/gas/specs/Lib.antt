pub mod Model
pub mod Soundness
pub mod Laws
pub mod Judging
pub mod Streaming
