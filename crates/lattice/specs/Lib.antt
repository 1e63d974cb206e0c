pub mod Sums
pub mod Firsts
pub mod Vectors
pub mod States
pub mod Grids
pub mod GridViews
pub mod Sources
pub mod Headings
