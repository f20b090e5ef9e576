mod Common
pub mod Tellable
pub mod Outputs
pub mod Saved
pub mod Pieces
pub mod Runs
pub mod Stations
pub mod Gives
pub mod Told
pub mod Charges
