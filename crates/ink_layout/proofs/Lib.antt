mod Common
pub mod Regions
pub mod Lengths
pub mod Bounds
pub mod Layouts
pub mod Stages
pub mod Images
pub mod Below
pub mod PlacesApart
