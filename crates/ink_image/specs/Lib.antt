pub mod Text
pub mod Reading
pub mod Form
pub mod Image
pub mod Whole
pub mod Plain
pub mod Before
pub mod Last
