-- What only the proofs keep: what the parts of the checks are asked.
pub mod Headers
pub mod Logs
pub mod Queues
pub mod Sources
