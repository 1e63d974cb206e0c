pub mod Roles
pub mod Cells
pub mod Tunnels
pub mod Step
pub mod Pushes
pub mod Soundness
pub mod Balance
pub mod States
