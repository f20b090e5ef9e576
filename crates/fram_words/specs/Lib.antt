pub mod Places
pub mod Shape
pub mod Changes
pub mod Words
pub mod Accesses
pub mod Steps
pub mod Header
pub mod Held
