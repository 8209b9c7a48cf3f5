pub mod PartLemmas
pub mod PhaseLemmas
pub mod CursorLemmas
pub mod LawLemmas
pub mod TextLines
pub mod LineFeedLemmas
mod MoveLemmas
pub mod SpliceLemmas
pub mod Vectors
pub mod ReadLemmas
