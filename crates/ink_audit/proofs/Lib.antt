mod Common
pub mod Lines
pub mod Differences
pub mod Written
pub mod Entries
pub mod Starts
pub mod Read
pub mod Judged
pub mod Clean
pub mod Texts
pub mod Once
pub mod Lawful
