pub mod RowSteps
pub mod Stretches
pub mod RowScenes
pub mod Settles
pub mod Products
pub mod Overlays
pub mod StepResults
pub mod Again
