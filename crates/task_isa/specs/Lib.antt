pub mod Names
pub mod Lookup
pub mod Acts
pub mod Meaning
pub mod Code
pub mod Runnable
pub mod Runs
