-- What only the proof keeps.
pub mod Lists
