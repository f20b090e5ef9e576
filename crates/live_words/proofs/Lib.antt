pub mod Behind
pub mod Joins
pub mod Lists
pub mod Founds
pub mod Queues
pub mod Follow
pub mod Standing
pub mod Sounding
