-- What only the proofs keep: the numbers that the words of a board tell.
pub mod Told
