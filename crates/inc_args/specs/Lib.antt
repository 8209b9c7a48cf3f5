pub mod CommandLine
pub mod CompilerCommand
pub mod CompilerWords
pub mod Meaning
pub mod Refusals
pub mod Views
