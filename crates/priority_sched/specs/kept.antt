-- What only the proof keeps: how many accesses a scan has left at most.
pub mod LeftMost
