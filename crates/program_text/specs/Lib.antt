pub mod Print
pub mod Marks
pub mod Typed
pub mod Reread
