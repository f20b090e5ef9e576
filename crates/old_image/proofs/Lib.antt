mod Common
pub mod Slots
pub mod Lists
pub mod OldQueues
pub mod Walks
pub mod NewBlocks
pub mod NewQueues
pub mod NewSources
pub mod Renewals
pub mod Checks
pub mod Stages
pub mod Unworn
pub mod Puts
pub mod QueueSlots
pub mod NewWords
pub mod Faults
