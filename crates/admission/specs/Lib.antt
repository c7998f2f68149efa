pub mod Watched
pub mod Gate
pub mod NarrowGate
