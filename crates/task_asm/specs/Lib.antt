pub mod Targets
pub mod Section
pub mod FaultLaw
