-- What only the proof keeps.
pub mod Stands
pub mod Acts
pub mod Paces
pub mod Actors
pub mod Runs
