use Rattle.std.proofs.Common.{option_map}
use Rattle.inc_inputs.specs.NamedPlaces.{with_path}
use Rattle.inc_inputs.specs.Views.{listed_in}
use Rattle.inc_inputs.proofs.EachLemmas.{Leads}
use Rattle.inc_inputs.proofs.named_marks.with_paths.Given as goal

-- the paths that are left lead where all of them do
abbrev pub invariant-loop-path : goal.invariant-loop-path
invariant-loop-path g l =
    Leads (with_path g.I.Inputs.gives (listed_in l.listed) (option_map (λ n. n.now) l.name)) (λ p. p.now) l.paths l.initial.marks.items l.marks.items l.path-index l.initial.inputs l.inputs
