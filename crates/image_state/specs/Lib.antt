pub mod Words
pub mod kept
