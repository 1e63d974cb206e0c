pub mod Numbers
pub mod Heads
pub mod Books
pub mod Tunnels
pub mod Files
