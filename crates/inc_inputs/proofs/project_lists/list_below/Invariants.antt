use Rattle.std.proofs.Common.{[], map}
use Rattle.inc_inputs.specs.ProjectLists.{with_folder}
use Rattle.inc_inputs.proofs.EachLemmas.{Leads}
use Rattle.inc_inputs.proofs.project_lists.list_below.Given as goal

-- the folders that are left lead where all of them do
abbrev pub invariant-loop-folder : goal.invariant-loop-folder
invariant-loop-folder g l = Leads (with_folder g.I.Inputs.gives (map (λ e. e.now) l.exclude)) (λ f. f.now) l.folders [] l.list.items l.folder-index l.initial.inputs l.inputs
