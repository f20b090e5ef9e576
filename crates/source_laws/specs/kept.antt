-- What only the proof keeps: what the registers of each source know, and the invariant of a board.
pub mod Knows
pub mod Kept
