-- Chains whose marks lie in one list.
use Rattle.std.specs.Prelude.{ℕ, ◌+◌, ◌≤◌, List, [], ◌∷◌, ◌++◌, map, length, take, drop}
use Rattle.std.specs.List.{All}
use Rattle.inc_graph.specs.Marks.{Mark}
use Rattle.inc_check.specs.declared.certificates.ChainPart.{ChainPart}
use Rattle.inc_check.specs.declared.certificates.CountedMarks.{CountedMarks}

-- a chain, whose marks are a part of those of all
abbrev pub chain_in : List Mark → ChainPart → CountedMarks
chain_in marks p = record { count = p.count; marks = take p.len (drop p.begin marks) }

abbrev pub chains_in : List Mark → List ChainPart → List CountedMarks
chains_in marks parts = map (chain_in marks) parts

-- no part ends after the marks
abbrev pub AreParts : List Mark → List ChainPart → Type 0
AreParts marks parts = All (λ (p : ChainPart). p.begin + p.len ≤ length marks) parts

---- chains that are being read

-- those that are read, and marks of which the next one is made
pub record OpenList : Type 0 where
  pub chains : List CountedMarks
  pub marks : List Mark

abbrev pub none_open : OpenList
none_open = record { chains = []; marks = [] }

abbrev pub with_mark : OpenList → Mark → OpenList
with_mark o m = record { chains = o.chains; marks = o.marks ++ m ∷ [] }

abbrev pub with_chain : OpenList → (count : ℕ) → OpenList
with_chain o count = record { chains = o.chains ++ record { count = count; marks = o.marks } ∷ []; marks = [] }

abbrev pub without_marks : OpenList → OpenList
without_marks o = record { chains = o.chains; marks = [] }

-- no part ends after a place, and the place is one of the marks
abbrev pub IsOpen : List Mark → List ChainPart → (begin : ℕ) → Type 0
IsOpen marks parts begin = All (λ (p : ChainPart). p.begin + p.len ≤ begin) parts × (begin ≤ length marks)
