pub mod PathLemmas
pub mod NormalLemmas
pub mod CleanPaths
mod ShortPaths
pub mod ListingLemmas
pub mod NamedPaths
mod KeptPaths
pub mod HeldLemmas
pub mod GivenLemmas
pub mod ReducedLemmas
pub mod OnePlace
mod SortedDirectives
mod RisingLists
mod SimpleLemmas
mod OrderLemmas
mod SimplePaths
mod PathSearch
