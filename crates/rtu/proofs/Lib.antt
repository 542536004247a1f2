pub mod Refusals
pub mod Replies
pub mod Demands
pub mod Single
