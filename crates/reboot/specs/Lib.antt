pub mod Boot
pub mod Bounded
pub mod Knows
pub mod Laws
pub mod kept
