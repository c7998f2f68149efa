-- Theorems. What they speak of stands in specs.
pub mod ActHeld
pub mod BatchLoop
pub mod LentPart
pub mod LinesFit
pub mod NeverSix
pub mod OneRecord
pub mod OpeningRounds
pub mod RecordsCounted
pub mod RecordsNotHeld
pub mod RecordsBeyond
pub mod RoundArms
pub mod Stopping
pub mod WithinBuffers
pub mod WorkedExample
pub mod TicketLaws
pub mod TicketKept
pub mod PartOfFile
