mod Common
pub mod Basics
pub mod Boots
pub mod Slots
pub mod Arms
pub mod Told
pub mod Accounts
pub mod Rooms
pub mod Growth
pub mod Pacing
pub mod Steps
pub mod Runs
