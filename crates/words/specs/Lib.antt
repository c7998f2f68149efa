pub mod Laid
pub mod Numbers
pub mod Kept
pub mod Done
