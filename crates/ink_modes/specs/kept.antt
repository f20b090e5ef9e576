-- What only a proof keeps.
pub mod Asked
pub mod Fits
pub mod Script
pub mod Told
