-- What only the proof keeps: the places of labels in the map that finds them.
pub mod Placed
