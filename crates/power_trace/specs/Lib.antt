pub mod Sensors
pub mod Tails
pub mod Power
pub mod Parse
pub mod Soak
