pub mod FirstEvents
pub mod Firsts
pub mod HeaderWords
pub mod LogWords
pub mod Origins
pub mod QueueSlots
pub mod Tests
