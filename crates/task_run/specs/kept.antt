-- What only the proof keeps: what is known while a pick is served, which page an access copies, and how many accesses are left, by the meaning of the task and at most.
pub mod Trace
pub mod Served
pub mod Progress
pub mod Serving
pub mod Copies
pub mod Left
pub mod LeftMost
pub mod Ahead
