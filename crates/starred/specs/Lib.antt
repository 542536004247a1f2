pub mod Ascii
pub mod Starred
