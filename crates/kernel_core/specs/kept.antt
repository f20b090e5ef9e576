-- What only the proof keeps: the invariant of a core and its board, and what a core is made of.
pub mod Holds
pub mod Recorded
pub mod Cores
pub mod Starts
pub mod Paces
