pub mod Refusals
pub mod Tests
pub mod Order
pub mod Powers
pub mod Single
