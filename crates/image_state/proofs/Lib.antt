mod Common
pub mod Blocks
pub mod Each
pub mod Logs
pub mod Merged
pub mod Newest
pub mod Pages
pub mod Standing
pub mod States
pub mod ThreadWords
pub mod Wears
