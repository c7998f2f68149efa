-- Theorems. What they speak of stands in specs.
pub mod KindByStage
pub mod Watched
pub mod GateLaws
pub mod NarrowGate
