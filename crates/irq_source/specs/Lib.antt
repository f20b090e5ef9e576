pub mod Known
pub mod Account
pub mod Rows
pub mod Acting
pub mod Pace
pub mod kept
