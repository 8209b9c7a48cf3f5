pub mod Globs
pub mod Rows
pub mod Views
