pub mod Scenes
pub mod Rows
pub mod Results
pub mod Settling
pub mod Taken
