pub mod LeastTicket
pub mod FreeSearch
pub mod LocalStart
