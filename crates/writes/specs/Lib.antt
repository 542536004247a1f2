pub mod Writes
pub mod Requests
pub mod Asked
