pub mod Bytes
pub mod Counts
pub mod States
pub mod Whole
pub mod Memory
