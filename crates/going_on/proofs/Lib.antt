mod Common
pub mod Outputs
pub mod Told
pub mod Rises
pub mod Alike
pub mod ReadStates
pub mod Parts
pub mod PartJobs
pub mod Wholes
pub mod Starts
pub mod Ends
pub mod States
pub mod Divides
