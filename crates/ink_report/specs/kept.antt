-- What only the proofs keep: what one entry makes of a summary, and members that are put into an object of JSON.
pub mod Noted
pub mod Members
