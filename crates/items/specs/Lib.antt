pub mod ItemList
pub mod Rows
