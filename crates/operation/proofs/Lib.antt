-- Theorems. What they speak of stands in specs.
pub mod LocalAct
pub mod LocalTurns
pub mod LeakLaws
