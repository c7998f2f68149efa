-- Theorems. What they speak of stands in specs.
pub mod EchogramRun
pub mod RowSum
pub mod AtSlot
pub mod Recorded
pub mod Conserved
pub mod SeriesLoop
pub mod WholeSeries
pub mod GridLaws
