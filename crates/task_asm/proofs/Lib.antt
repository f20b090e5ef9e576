pub mod Staying
pub mod StayingTexts
