mod Common
pub mod Codes
mod Sends
mod Fitting
mod Runs
pub mod Nexts
