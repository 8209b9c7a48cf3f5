use Rattle.std.proofs.Common.{◌≡◌, map, take}
use Rattle.inc_lookup.specs.declared.projects.DirectiveId.{DirectiveId}
use Rattle.inc_lookup.proofs.directive_sets.lines_of.Given as goal

-- the lines of the first
abbrev pub invariant-loop-id : goal.invariant-loop-id
invariant-loop-id l = l.lines.items ≡ map (λ (d : DirectiveId). d.line) (take l.id-index l.ids)
