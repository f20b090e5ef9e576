pub mod Account
pub mod Follows
