use Rattle.std.proofs.Common.{◌≡◌, length, suc, take}
use Rattle.std.specs.Prelude.{flat_map}
use Rattle.inc_cost.specs.Trees.{IsFor}
use Rattle.inc_answers.specs.Sending.{Sends}
use Rattle.inc_answers.specs.TreeText.{source_stacks}
use Rattle.inc_answers.proofs.trees.send_each_source.Given as goal

-- the stacks of the sources so far are sent
abbrev pub invariant-loop-source : goal.invariant-loop-source
invariant-loop-source g l =
    IsFor l.graph l.walk × (l.way.room ≡ suc (length l.graph.edges)) × Sends l.initial.out l.out (flat_map (source_stacks l.project l.graph l.sizes) (take l.source-index l.graph.sources))
