pub mod Model
pub mod Rows
pub mod Stands
pub mod Steps
pub mod Journals
pub mod kept
