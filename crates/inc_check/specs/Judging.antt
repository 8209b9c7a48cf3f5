-- How a certificate is judged as it is read.
use Rattle.std.specs.Prelude.{◌≡◌, ◌⊎◌, ℕ, Bool, List, [], Option, Some, None, MatchBool}
use Rattle.inc_lookup.specs.Projects.{Layout}
use Rattle.inc_graph.specs.IncludeGraph.{Graph}
use Rattle.inc_check.specs.declared.certificates.Certificate.{Certificate}
use Rattle.inc_check.specs.declared.judging.Judge.{Judge}
use Rattle.inc_check.specs.declared.read_texts.Stage.{Stage}
use Rattle.inc_check.specs.declared.read_texts.Stage.TheVariants.{Start, Cut, Chains, Chain}
use Rattle.inc_check.specs.Checking.{IsCutFor, IsCutOf, IsFitted, IsSummed, IsSumming}
use Rattle.inc_check.specs.Reading.{State, closed}

-- in a stage: the cut, and the chains that are read
abbrev pub IsJudgedBy : Stage → Layout → Graph → (amounts : List ℕ) → Judge → State → Type 0
IsJudgedBy Start layout g amounts j s = IsCutOf layout g amounts s.marks j.cut × (s.chains ≡ []) × IsSummed layout g [] j.chains
IsJudgedBy Cut layout g amounts j s = IsCutOf layout g amounts s.marks j.cut × (s.chains ≡ []) × IsSummed layout g [] j.chains
IsJudgedBy Chains layout g amounts j s = IsCutOf layout g amounts s.cut j.cut × (s.chains ≡ []) × IsSummed layout g [] j.chains
IsJudgedBy Chain layout g amounts j s = IsCutOf layout g amounts s.cut j.cut × IsSumming layout g s.chains s.count s.marks j.chains

-- what is judged is what is read
pub record IsJudged (layout : Layout) (g : Graph) (amounts : List ℕ) (j : Judge) (s : State) : Type 0 where
  -- it is at the same part of the text
  pub stage : j.stage ≡ s.stage
  -- the chain that is read counts so often
  pub count : j.count ≡ s.count
  -- it has so many marks to come
  pub marks_left : j.marks_left ≡ s.marks_left
  -- and so many chains are to come after it
  pub chains_left : j.chains_left ≡ s.chains_left
  -- what is kept of the marks says what the marks say
  pub parts : IsJudgedBy s.stage layout g amounts j s

-- the chain that is being read, if one is, is judged with those before it
pub record IsClosed (layout : Layout) (g : Graph) (amounts : List ℕ) (j : Judge) (s : State) : Type 0 where
  pub cut : IsCutOf layout g amounts s.cut j.cut
  pub chains : IsSummed layout g (closed s) j.chains

-- in the chains, or before the first
abbrev pub IsBegun : Stage → Type 0
IsBegun stage = (stage ≡ Chains) ⊎ (stage ≡ Chain)

-- what a line leads to is judged, or the line does not fit
abbrev pub IsJudgedAfter : Layout → Graph → (amounts : List ℕ) → Judge → (next : Option State) → (fits : Bool) → Type 0
IsJudgedAfter layout g amounts j next fits = MatchBool fits ((t : State) × (next ≡ Some t) × IsJudged layout g amounts j t) (next ≡ None)

-- the certificate is judged, or it is not whole
abbrev pub IsJudgedWhole : Layout → Graph → (amounts : List ℕ) → Judge → Option Certificate → (whole : Bool) → Type 0
IsJudgedWhole layout g amounts j o whole = MatchBool whole
    ((c : Certificate) × (o ≡ Some c) × IsCutOf layout g amounts c.cut j.cut × IsSummed layout g c.chains j.chains) (o ≡ None)

-- the judge is made for the graph
pub record IsJudgeOf (g : Graph) (j : Judge) : Type 0 where
  pub cut : IsCutFor g j.cut
  pub sums : IsFitted g j.chains
