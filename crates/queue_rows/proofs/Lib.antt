mod Common
pub mod Queues
pub mod Carries
