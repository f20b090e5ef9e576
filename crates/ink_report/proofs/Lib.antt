mod Common
pub mod AsciiNames
pub mod Values
pub mod Counted
pub mod Reportable
