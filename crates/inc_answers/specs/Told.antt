-- What is answered about a graph: which edges, chains and sources. How that is written is another matter.
use Rattle.std.specs.Prelude.{ℕ, Bool, List, [], Option, Some, None, if◌then◌else◌}
use Rattle.inc_lookup.specs.Projects.{Layout}
use Rattle.inc_graph.specs.Chains.{IsShortestOrNone, AreChainsByLast}
use Rattle.inc_graph.specs.Cuts.{Counted, fixed_by, costs_by, IsCut, IsFixedChain}
use Rattle.inc_graph.specs.IncludeGraph.{Graph}
use Rattle.inc_graph.specs.Reaching.{AreReaching, Reaching}
use Rattle.inc_answers.specs.AnswerNotes.{definition_notes, empty_notes}
use Rattle.inc_answers.specs.Printed.{Printed, end_of}
use Rattle.inc_answers.specs.WhoText.{who_kind, who_notes}
use Rattle.inc_answers.specs.WhyText.{why_kind, why_notes}
use Rattle.inc_answers.specs.declared.asked.Asked.{Asked}
use Rattle.inc_answers.specs.declared.asked.Asked.TheVariants as asked
use Rattle.inc_answers.specs.declared.subjects.Told as declared
use Rattle.inc_answers.specs.declared.outcome.EndKind.{EndKind}
use Rattle.inc_answers.specs.declared.outcome.EndKind.TheVariants.{Answered, Negative}

pub data Answer : Type 0 where
  -- a shortest chain, and for each edge into a header the shortest chain that it ends
  Chains : (shortest : Option (List ℕ)) → (chains : List (List ℕ)) → Answer
  -- the sources that reach a header, and the same chains
  Sources : List Reaching → (chains : List (List ℕ)) → Answer
  -- all edges of the graph
  Edges : Answer
  -- the edges to remove, and chains that show that no set is cheaper
  Removed : (set : List ℕ) → List Counted → Answer
  -- a chain of which no edge may be removed
  FixedChain : (chain : List ℕ) → Answer

-- the answer of a graph to what is asked, whose edges have these amounts
abbrev pub IsAnswerOf : Asked → Graph → (amounts : List ℕ) → Answer → Type 0
IsAnswerOf asked.Why g amounts (Chains shortest chains) = IsShortestOrNone g shortest × AreChainsByLast g 0 chains
IsAnswerOf asked.Who g amounts (Sources reaching chains) = AreReaching g g.sources reaching × AreChainsByLast g 0 chains
IsAnswerOf asked.Graph g amounts Edges = Unit {0}
IsAnswerOf asked.Cut g amounts (Removed set chains) = IsCut g (fixed_by amounts) (costs_by amounts) set chains
IsAnswerOf asked.Cut g amounts (FixedChain chain) = IsFixedChain g (fixed_by amounts) chain
IsAnswerOf _ g amounts _ = ⊥

-- the call ends so: where it is asked to fail, the answer that a header is reached is negative
abbrev pub end_kind : (fails : Bool) → Answer → EndKind
end_kind fails (Chains shortest chains) = why_kind fails shortest
end_kind fails (Sources reaching chains) = who_kind fails reaching
end_kind fails Edges = Answered
end_kind fails (Removed set chains) = Answered
end_kind fails (FixedChain chain) = Negative

-- what is noted beside it, of files that are read as they are or not: where they define names that no build defines, and of headers that are
-- not found, or that no configuration leads to one
abbrev pub notes_of : (whole : Bool) → Layout → Graph → Answer → List ℕ
notes_of whole layout g (Chains shortest chains) = why_notes whole layout g shortest
notes_of whole layout g (Sources reaching chains) = who_notes whole layout g reaching
notes_of whole layout g Edges = definition_notes layout g
notes_of whole layout g (Removed set chains) = empty_notes layout g
notes_of whole layout g (FixedChain chain) = empty_notes layout g

-- what is printed of a text that is made
abbrev pub told_printed : declared.Told → Printed
told_printed t = record { text = t.text.items; end = end_of t.notes t.kind }

-- the chain, if one is found
abbrev pub chain_found : (found : Bool) → List ℕ → Option (List ℕ)
chain_found found chain = if found then Some chain else None
