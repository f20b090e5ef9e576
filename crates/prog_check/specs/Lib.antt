pub mod Lookup
pub mod Accepted
pub mod Faults
