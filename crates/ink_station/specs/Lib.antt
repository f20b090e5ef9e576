pub mod Parts
pub mod Jobs
pub mod Running
pub mod Once
pub mod kept
