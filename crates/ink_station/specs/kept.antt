-- What only the proofs speak of.
pub mod Cores
pub mod Within
