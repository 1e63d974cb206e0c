pub mod Patches
pub mod Lines
pub mod Reports
