-- What a reader must believe: definitions only, in the order of docs/RULES.md, but that the refusals come behind the turns: they use what is defined
-- there. What is proved of all this stands in facts.
pub mod Layout
pub mod Ranges
pub mod Opening
pub mod Reclaim
pub mod Outcome
pub mod Starts
pub mod SearchSteps
pub mod EnqueueSteps
pub mod DequeueSteps
pub mod Steps
pub mod Refusals
pub mod Operations
pub mod NarrowCalls
pub mod Ledger
pub mod Snapshot
pub mod Linearizability
pub mod HostHistory
