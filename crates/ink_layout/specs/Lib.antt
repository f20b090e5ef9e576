pub mod Points
pub mod Shape
pub mod Slots
pub mod Addresses
pub mod Layouts
pub mod Apart
pub mod Image
pub mod Stages
