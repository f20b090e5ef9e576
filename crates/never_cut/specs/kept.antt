-- What only the proofs keep: what is known beside the registers of the kernel, of its pick, and what the others may do meanwhile.
pub mod Actors
pub mod Steps
pub mod Picked
