mod Common
pub mod Rows
pub mod Sections
pub mod Again
pub mod Behind
pub mod Begun
pub mod Judged
pub mod Rests
pub mod PlainTexts
pub mod Holding
pub mod Once
pub mod Forms
pub mod Places
pub mod Within
pub mod Fronts
pub mod Telling
pub mod Nothing
