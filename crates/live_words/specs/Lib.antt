pub mod Puts
pub mod Finals
pub mod Ends
