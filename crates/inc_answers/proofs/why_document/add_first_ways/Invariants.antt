use Rattle.std.proofs.Common.{◌≡◌, ◌++◌, ◌+◌, ◌-◌, ◌<◌, ◌≤◌, length, take}
use Rattle.std.specs.List.{All}
use Rattle.std.specs.Prelude.{flat_map}
use Rattle.inc_answers.specs.WhyDocument.{way_blocks}
use Rattle.inc_answers.proofs.why_document.add_first_ways.Given as goal

-- the chains so far are added, and those that are still to be are left
abbrev pub invariant-loop-place : goal.invariant-loop-place
invariant-loop-place l = record {
  added : l.document ++ flat_map (way_blocks l.last l.graph) (take (l.shown - l.place) l.chains.left)
      ≡ l.initial.document ++ flat_map (way_blocks l.last l.graph) (take l.shown l.initial.chains.left);
  enough : l.shown ≤ l.place + length l.chains.left;
  left : All (λ chain. All (λ i. i < length l.graph.edges) chain) l.chains.left;
}

abbrev pub decreases-loop-place : goal.decreases-loop-place
decreases-loop-place l = l.shown - l.place
