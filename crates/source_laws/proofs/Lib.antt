mod Common
pub mod Numbers
pub mod Sources
pub mod Drifts
pub mod Own
pub mod Counts
pub mod Frames
pub mod Nears
pub mod SourceMoves
pub mod KernelMoves
pub mod Fits
pub mod Steps
pub mod Journals
pub mod Runs
pub mod Ports
