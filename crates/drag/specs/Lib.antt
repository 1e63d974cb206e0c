pub mod Scenes
pub mod Lines
