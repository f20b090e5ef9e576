mod Common
pub mod Pages
pub mod Masks
pub mod Calls
pub mod Sixteen
pub mod Puts
