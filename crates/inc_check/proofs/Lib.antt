pub mod Numerals
pub mod Formats
pub mod WordLemmas
pub mod LineLemmas
pub mod FrontLemmas
pub mod DigitLemmas
pub mod PlaceLemmas
pub mod MarksFormats
pub mod ShortMarks
pub mod CostsFormats
pub mod CertificateFormats
pub mod PlainLines
pub mod CertificateRuns
pub mod CertificateTexts
mod LongLines
pub mod VerdictLemmas
pub mod EdgeMarks
pub mod AcceptedCuts
pub mod MarkLemmas
pub mod ChainListLemmas
pub mod ReturnLemmas
pub mod NamingLemmas
pub mod SetLemmas
pub mod ChainLemmas
pub mod SumLemmas
pub mod ReachLemmas
pub mod CheckLemmas
pub mod FirstMarks
pub mod ChainSumLemmas
pub mod CutLemmas
pub mod JudgeLemmas
mod AheadLemmas
mod ListTexts
