pub mod Lost
pub mod Divided
pub mod GoesOn
