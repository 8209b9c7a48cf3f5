use Rattle.std.proofs.Common.{◌≡◌, not, take}
use Rattle.std.specs.Prelude.{filter}
use Rattle.inc_graph.specs.Members.{is_member}
use Rattle.inc_answers.proofs.cost_groups.without_sources.Given as goal

-- those so far
abbrev pub invariant-loop-file : goal.invariant-loop-file
invariant-loop-file l = l.kept.items ≡ filter (λ f. not (is_member f l.graph.sources)) (take l.file-index l.files)
