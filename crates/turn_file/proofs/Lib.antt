-- Theorems. What they speak of stands in specs.
pub mod Decimal
pub mod Records
pub mod FoundRecord
pub mod FrontFields
pub mod FrontRecords
pub mod MoreBytes
pub mod Leftover
pub mod OneReading
pub mod Buffer
pub mod FileExample
pub mod LineLaws
