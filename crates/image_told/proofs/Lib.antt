pub mod Addresses
pub mod Walks
