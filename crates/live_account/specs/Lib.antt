pub mod Turns
pub mod Events
pub mod Queues
pub mod Kernel
pub mod Record
pub mod Matches
