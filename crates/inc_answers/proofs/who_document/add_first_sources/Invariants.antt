use Rattle.std.proofs.Common.{◌≡◌, ◌++◌, ◌+◌, ◌-◌, ◌≤◌, length, take}
use Rattle.std.specs.List.{All}
use Rattle.std.specs.Prelude.{flat_map}
use Rattle.inc_answers.specs.WhoDocument.{reaching_blocks}
use Rattle.inc_answers.proofs.WhoLemmas.{IsWithin}
use Rattle.inc_answers.proofs.who_document.add_first_sources.Given as goal

-- the sources so far are added, and those that are still to be are left
abbrev pub invariant-loop-place : goal.invariant-loop-place
invariant-loop-place l = record {
  added : l.document ++ flat_map (reaching_blocks l.all l.project l.graph) (take (l.shown - l.place) l.reaching.left)
      ≡ l.initial.document ++ flat_map (reaching_blocks l.all l.project l.graph) (take l.shown l.initial.reaching.left);
  enough : l.shown ≤ l.place + length l.reaching.left;
  left : All (IsWithin l.graph) l.reaching.left;
  graph : l.reaching.graph ≡ l.graph;
}

abbrev pub decreases-loop-place : goal.decreases-loop-place
decreases-loop-place l = l.shown - l.place
