-- What only the proofs speak of.
pub mod Slices
pub mod Sources
pub mod Kernels
pub mod Dates
pub mod Begins
pub mod Runs
pub mod Boards
pub mod Ends
pub mod Parts
