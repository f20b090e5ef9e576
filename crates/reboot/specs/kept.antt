-- What only the proof keeps: how many accesses a boot has left at most.
pub mod LeftMost
