mod BaselineLemmas
pub mod KnownParts
pub mod OneText
pub mod PpLemmas
pub mod PpSections
pub mod RuleLemmas
pub mod BrokenRules
pub mod RulesKept
pub mod SarifLemmas
pub mod KeptLines
pub mod ReadWalks
pub mod NamedLines
pub mod KeptOut
pub mod BlankedCuts
pub mod NamedDirectives
pub mod HeadlineLemmas
mod ByteLemmas
pub mod KeptLemmas
pub mod ChangedListings
pub mod BlankLemmas
pub mod UnresolvedTexts
pub mod KeptDirectives
pub mod NamedLemmas
pub mod JsonExamples
pub mod JsonKept
