mod Common
pub mod Count
pub mod Walk
pub mod Loop
pub mod Grouped
pub mod Whole
pub mod Suffix
pub mod Failing
pub mod Each
pub mod Sizes
