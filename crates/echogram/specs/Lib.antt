pub mod Row
pub mod Outcomes
pub mod Refusals
pub mod Series
pub mod AtSlot
pub mod Recorded
pub mod Grid
pub mod SeriesLoop
