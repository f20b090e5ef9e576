pub mod Frames
pub mod Addresses
pub mod Accesses
pub mod ReadBack
