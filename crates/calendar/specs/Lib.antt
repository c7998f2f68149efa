pub mod rules
pub mod facts
