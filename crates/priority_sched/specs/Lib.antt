pub mod Order
pub mod Picks
pub mod Scan
pub mod Bounded
pub mod Knows
pub mod Laws
pub mod Reached
pub mod kept
