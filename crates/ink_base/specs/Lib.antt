pub mod Lines
pub mod Tokens
pub mod TokenLines
pub mod Walk
pub mod Numbers
pub mod Gives
pub mod Checks
pub mod Suffix
