-- What only the proofs keep: what the steps of a reading tell.
pub mod Feeds
pub mod Told
