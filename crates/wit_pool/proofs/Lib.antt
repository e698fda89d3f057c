pub mod Results
pub mod Serves
pub mod Adding
pub mod Tickets
pub mod Leads
pub mod Orders
pub mod Places
pub mod Wholes
