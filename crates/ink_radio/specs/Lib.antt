pub mod Packets
pub mod Script
pub mod Radio
pub mod Keeps
pub mod kept
