pub mod Board
pub mod Failing
pub mod Laws
pub mod kept
