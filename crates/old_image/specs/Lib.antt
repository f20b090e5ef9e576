pub mod Slots
pub mod Told
pub mod Image
pub mod Worn
pub mod Renewed
pub mod Failing
pub mod kept
