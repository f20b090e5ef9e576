pub mod Common
pub mod ReadBack
pub mod Coded
pub mod Reaching
pub mod Counted
pub mod Sending
