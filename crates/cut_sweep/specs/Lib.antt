pub mod Cut
pub mod Sweep
pub mod Limit
pub mod kept
