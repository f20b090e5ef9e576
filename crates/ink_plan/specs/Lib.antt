pub mod Code
pub mod Plans
pub mod Lowest
pub mod Bounded
pub mod Charges
pub mod Slack
pub mod Text
pub mod kept
