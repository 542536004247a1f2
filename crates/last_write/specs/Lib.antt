pub mod LastWrite
pub mod Claims
