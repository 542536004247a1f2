pub mod Lists
pub mod Cut
pub mod Single
