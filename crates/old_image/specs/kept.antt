pub mod Origins
pub mod Parts
pub mod Stages
pub mod Unworn
