-- What only the proofs keep: packets read from bytes, what every script reaches, and packets that are counted.
pub mod Decoding
pub mod Reached
pub mod Counting
