use Rattle.std.proofs.Common.{◌≡◌, take}
use Rattle.std.specs.Prelude.{fold}
use Rattle.inc_answers.specs.MarkReasons.{no_lines, with_edge}
use Rattle.inc_answers.proofs.mark_reasons.nearest_edge.Given as goal

-- the nearest of those so far
abbrev pub invariant-loop-edge : goal.invariant-loop-edge
invariant-loop-edge l = l.near ≡ fold (with_edge l.at) no_lines (take l.edge-index l.edges)
