-- What only the proofs keep: the board that a kernel can imagine.
pub mod Imagines
pub mod Standing
pub mod Answered
pub mod Rooms
