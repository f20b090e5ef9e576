pub mod Sums
pub mod Counts
pub mod Tells
pub mod Cuts
pub mod Limits
pub mod Runs
