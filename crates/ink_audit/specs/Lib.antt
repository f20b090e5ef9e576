pub mod Claim
pub mod Differences
pub mod Verdicts
pub mod Laws
pub mod kept
