pub mod Parts
pub mod Besides
pub mod Growing
