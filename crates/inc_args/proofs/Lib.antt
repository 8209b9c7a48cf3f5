pub mod AllSources
pub mod CompilerWordLists
pub mod Examples
pub mod OptionWords
pub mod Rows
pub mod Simple
pub mod Subcommands
