mod Common
pub mod Below
pub mod Apart
pub mod Passed
pub mod Sound
pub mod Complete
