mod Common
pub mod Orders
pub mod Looked
pub mod Searches
pub mod Words
pub mod Rings
pub mod Nexts
pub mod Chains
pub mod Items
pub mod Timers
pub mod Looks
pub mod Scans
pub mod Ranges
pub mod Ends
pub mod Drifts
pub mod Alone
pub mod Counts
pub mod LeftFalls
