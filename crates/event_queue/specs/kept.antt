-- What only the proof keeps: the facts of sets and seats, the words at the start, how seats come together.
pub mod Changes
pub mod Plays
pub mod Images
pub mod Sits
pub mod Gathers
