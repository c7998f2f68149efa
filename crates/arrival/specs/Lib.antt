pub mod Keys
pub mod Energy
pub mod Responses
pub mod Queue
pub mod QueueLaws
pub mod Refusals
pub mod Requests
