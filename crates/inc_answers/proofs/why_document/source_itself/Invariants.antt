use Rattle.std.proofs.Common.{◌≡◌, drop}
use Rattle.std.specs.Prelude.{find}
use Rattle.inc_graph.specs.Members.{is_member}
use Rattle.inc_answers.proofs.why_document.source_itself.Given as goal

-- none of those so far is a header
abbrev pub invariant-loop-source : goal.invariant-loop-source
invariant-loop-source l = find (λ s. is_member s l.graph.headers) (drop l.source-index l.source-items) ≡ find (λ s. is_member s l.graph.headers) l.graph.sources
