pub mod Lists
pub mod RoleLaws
pub mod Rows
pub mod Taken
