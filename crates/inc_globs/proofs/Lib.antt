mod PieceLemmas
mod RowLemmas
mod ClassLemmas
mod GlobExamples
