mod Common
pub mod Boots
pub mod Drifts
pub mod Ends
pub mod Ranges
pub mod LeftFalls
