pub mod Told
pub mod Wear
