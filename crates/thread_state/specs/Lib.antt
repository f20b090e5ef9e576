pub mod Committed
pub mod Pages
pub mod Blocks
pub mod Buffers
pub mod Steps
pub mod Writes
pub mod Calls
pub mod Puts
